use Rattle.std.proofs.Common.{arith}
use Rattle.wasm_custom_sections.specs.declared.core_values.CoreDumpValue.TheVariants as values
use Rattle.wasm_custom_sections.proofs.CoreValueLaws.{value_written}
use Rattle.wasm_custom_sections.proofs.core_values.CoreDumpValueEncode.encode.Goals as goal

pub returns-in-F32-clause-written : goal.returns-in-F32-clause-written
returns-in-F32-clause-written g c = rw c.in-F32.is (value_written (values.F32 c.in-F32.number) (omega (arith, c.bits.ensures, c.bits.type_inv)))

pub returns-in-F64-clause-written : goal.returns-in-F64-clause-written
returns-in-F64-clause-written g c = rw c.in-F64.is (value_written (values.F64 c.in-F64.number) (omega (arith, c.bits-in-F64.ensures, c.bits-in-F64.type_inv)))

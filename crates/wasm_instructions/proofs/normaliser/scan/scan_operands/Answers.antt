use Rattle.std.proofs.Common.{refl}
use Rattle.wasm_codec.proofs.ScanLaws.{made_scanned}
use Rattle.wasm_instructions.specs.formats.Instructions.{operands_format}
use Rattle.wasm_instructions.specs.OperandParts.{block_part, mem_part, i32_part, i64_part, f32_part, f64_part}
use Rattle.wasm_instructions.specs.formats.Operands.{block_type, mem_arg}
use Rattle.wasm_codec.specs.formats.Combinators.{s32, s64, little_endian}
use Rattle.wasm_instructions.specs.formats.Operands.{ieee32, ieee64}
use Rattle.wasm_instructions.specs.declared.table.call.Operands.TheVariants as operands
use Rattle.wasm_instructions.proofs.normaliser.scan.scan_operands.Goals as goal

pub returns-in-Block : goal.returns-in-Block
unfolding operands_format
returns-in-Block c = rw c.in-Block.is (made_scanned operands.Block block_part block_type (λ a. refl) c.args.bytes.now c.scan_block_type.result c.scan_block_type.ensures)

pub returns-in-Mem : goal.returns-in-Mem
unfolding operands_format
returns-in-Mem c = rw c.in-Mem.is (made_scanned operands.Mem mem_part mem_arg (λ a. refl) c.args.bytes.now c.scan_mem_arg.result c.scan_mem_arg.ensures)

pub returns-in-I32 : goal.returns-in-I32
unfolding operands_format
returns-in-I32 c = rw c.in-I32.is (made_scanned operands.I32 i32_part s32 (λ a. refl) c.args.bytes.now c.scan_s32.result c.scan_s32.ensures)

pub returns-in-I64 : goal.returns-in-I64
unfolding operands_format
returns-in-I64 c = rw c.in-I64.is (made_scanned operands.I64 i64_part s64 (λ a. refl) c.args.bytes.now c.scan_s64.result c.scan_s64.ensures)

pub returns-in-F32 : goal.returns-in-F32
unfolding operands_format
returns-in-F32 c = rw c.in-F32.is (made_scanned (λ bits. operands.F32 (ieee32 bits)) f32_part (little_endian 4) (λ a. refl) c.args.bytes.now c.scan_raw.result c.scan_raw.ensures)

pub returns-in-F64 : goal.returns-in-F64
unfolding operands_format
returns-in-F64 c = rw c.in-F64.is (made_scanned (λ bits. operands.F64 (ieee64 bits)) f64_part (little_endian 8) (λ a. refl) c.args.bytes.now c.scan_raw-in-F64.result c.scan_raw-in-F64.ensures)

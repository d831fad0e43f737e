use Rattle.std.proofs.Common.{ap, arith}
use Rattle.wasm_codec.proofs.DecodingLaws.{checks, refused_vector, rewritten_vector}
use Rattle.wasm_codec.specs.Outcomes.{read_error_of}
use Rattle.wasm_code.specs.Longer.{len_of, verdict_of}
use Rattle.wasm_sections.proofs.ModuleSectionLaws.{whole_module_is_lawful, whole_module_is_minimal}
use Rattle.wasm_modules.proofs.LongerLaws.{form_needs_none}
use Rattle.wasm_modules.proofs.modules.rewrite_and_check_whole_module.Goals as goal

pub returns-in-Ok-clause-normalises : goal.returns-in-Ok-clause-normalises
returns-in-Ok-clause-normalises c =
    let m = c.rewrite_and_check_module_of in
    rewritten_vector whole_module_is_lawful c.args.bytes.items c.as_mut_slice.result.now m.new.bytes _ c.args.bytes.len c.in-Ok.field-0.len (len_of m.result) c.truncate.new.self (ap len_of c.in-Ok.is) c.as_mut_slice.ensures.value (omega arith) c.truncate.ensures.items m.ensures.rewrites

pub returns-in-Ok-clause-checks : goal.returns-in-Ok-clause-checks
returns-in-Ok-clause-checks c = rw (← c.as_mut_slice.ensures.value) (checks whole_module_is_lawful c.as_mut_slice.result.now whole_module_is_minimal (verdict_of c.in-Ok.field-0.longer) c.in-Ok.ensures.checks)

pub returns-in-Err-clause-normalises : goal.returns-in-Err-clause-normalises
returns-in-Err-clause-normalises c =
    let m = c.rewrite_and_check_module_of in
    refused_vector whole_module_is_lawful c.args.bytes.items c.as_mut_slice.result.now m.new.bytes (read_error_of c.in-Err.error) (len_of m.result) (ap len_of c.in-Err.is) c.as_mut_slice.ensures.value m.ensures.rewrites (form_needs_none m.result m.ensures.memory)

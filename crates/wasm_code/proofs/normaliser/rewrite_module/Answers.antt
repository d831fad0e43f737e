use Rattle.std.proofs.Common.{sym, ◌∙◌, arith}
use Rattle.wasm_codec.specs.Outcomes.{as_read}
use Rattle.wasm_codec.proofs.DecodingLaws.{refused_vector, rewritten_vector}
use Rattle.wasm_code.proofs.ModuleFormatLaws.{Lawful-decoded-module}
use Rattle.wasm_code.proofs.normaliser.rewrite_module.Goals as goal

pub returns-in-Ok : goal.returns-in-Ok
returns-in-Ok c =
    let n = c.rewrite_module_of in
    record { normalises = rewritten_vector Lawful-decoded-module c.args.bytes.items c.as_mut_slice.result.now n.new.bytes _ c.args.bytes.len c.in-Ok.len (as_read n.result) c.truncate.new.self (sym c.without_reason.ensures ∙ c.in-Ok.is) c.as_mut_slice.ensures.value (omega arith) c.truncate.ensures.items n.ensures.rewrites }

pub returns-in-Err : goal.returns-in-Err
returns-in-Err c =
    let n = c.rewrite_module_of in
    record { normalises = refused_vector Lawful-decoded-module c.args.bytes.items c.as_mut_slice.result.now n.new.bytes c.in-Err.error (as_read n.result) (sym c.without_reason.ensures ∙ c.in-Err.is) c.as_mut_slice.ensures.value n.ensures.rewrites n.ensures.memory }

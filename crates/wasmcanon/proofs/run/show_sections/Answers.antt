use Rattle.std.proofs.Common.{◌∙◌, Err, ap}
use Rattle.wasm_codec.specs.declared.reader.DecodeError.{DecodeError}
use Rattle.wasmcanon.proofs.ResultLaws.{shown_refused}
use Rattle.wasmcanon.proofs.run.show_sections.Goals as goal

pub returns-clause-accepts : goal.returns-clause-accepts
returns-clause-accepts g c =
    let shown = c.rewrite_watched in
    shown_refused c.args.input.items c.as_mut_slice.result.now shown.new.bytes shown.result c.in-Err-Malformed.malformed c.as_mut_slice.ensures.value (c.in-Err-Malformed.is ∙ ap (λ (e : DecodeError). Err e) c.in-Err-Malformed.field-0-is) shown.ensures.rewrites

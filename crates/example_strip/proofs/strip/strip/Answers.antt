use Rattle.std.proofs.Common.{◌∙◌, ap, subst}
use Rattle.std.specs.Io.KnownBytes.{Appends}
use Rattle.wasm_encoder.specs.ModuleFormats.{raw_module}
use Rattle.wasm_encoder.specs.Sections.{all_parts_of}
use Rattle.example_strip.specs.Kept.{kept}
use Rattle.example_strip.proofs.strip.strip.Goals as goal

pub returns-in-Ok-write_kept-clause-written : goal.returns-in-Ok-write_kept-clause-written
returns-in-Ok-write_kept-clause-written g c = λ sections encoded.
    subst (Appends (g.W.Write.contents c.args.writer) (g.W.Write.contents c.in-Ok-write_kept.output))
    (ap (λ lent. raw_module.bytes (kept (all_parts_of lent))) c.deref.ensures.value
    ∙ ap (λ parts. raw_module.bytes (kept parts)) (c.in-Ok.ensures.decodes.complete sections encoded))
    c.in-Ok-write_kept.ensures

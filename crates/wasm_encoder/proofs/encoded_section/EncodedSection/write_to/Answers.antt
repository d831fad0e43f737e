use Rattle.std.proofs.Common.{◌≡◌, ◌++◌, List, ℕ, ap, ◌∙◌}
use Rattle.wasm_encoder.proofs.WriterLaws.{after_front}
use Rattle.wasm_encoder.proofs.encoded_section.EncodedSection.write_to.Goals as goal

pub returns : goal.returns
returns g c =
    let parts : c.deref.result.now ++ c.self.inside.rest.now ≡ c.args.self.now = ap (λ (t : List ℕ). t ++ c.self.inside.rest.now) c.deref.ensures.value ∙ c.self.view_is in
    record { writes = after_front _ _ _ _ _ _ _ parts c.in_ok-write_all.ensures.writes.ok c.write_all-2.ensures.writes }

use Rattle.std.proofs.Common.{refl, ap, ◌∙◌, sym, arith}
use Rattle.wasm_codec.specs.Places.{byte_at}
use Rattle.wasm_codec.specs.Rewriter.{Rewriting}
use Rattle.wasm_codec.proofs.Windows.{no_byte, byte_there}
use Rattle.wasm_codec.proofs.rewriter.Rewriter.peek.Goals as goal

pub returns-then-self-clause-sees : goal.returns-then-self-clause-sees
returns-then-self-clause-sees c =
    let r = c.self.inside in
    ap (λ (q : Rewriting). byte_at q.place) (sym c.self.view_is) ∙ no_byte r.bytes.now r.written r.from r.position r.end r.minimal r.bytes.ghost_name c.if-self.true

pub returns-clause-sees : goal.returns-clause-sees
returns-clause-sees c =
    let r = c.self.inside in
    (_, ap (λ (q : Rewriting). byte_at q.place) (sym c.self.view_is) ∙ byte_there r.bytes.now r.written r.from r.position r.end r.minimal r.bytes.ghost_name _ (omega arith) c.self.invariant.3 refl)

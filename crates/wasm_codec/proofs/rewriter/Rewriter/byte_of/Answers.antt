use Rattle.std.proofs.Common.{refl, ap, ◌∙◌, sym, arith}
use Rattle.wasm_codec.specs.formats.Combinators.{a_byte}
use Rattle.wasm_codec.specs.Places.{byte_at}
use Rattle.wasm_codec.specs.Rewriter.{Rewriting, rewritten_at}
use Rattle.wasm_codec.proofs.Windows.{no_byte, byte_stays}
use Rattle.wasm_codec.proofs.rewriter.Rewriter.byte_of.Goals as goal

pub returns-then-self : goal.returns-then-self
returns-then-self c =
    let r = c.self.inside in
    ap (λ (q : Rewriting). byte_at q.place) (sym c.self.view_is) ∙ no_byte r.bytes.now r.written r.from r.position r.end r.minimal r.bytes.ghost_name c.if-self.true

pub returns : goal.returns
returns c =
    let r = c.self.inside in
    ap (rewritten_at a_byte) (sym c.self.view_is) ∙ byte_stays r.bytes.now r.written r.from r.position r.end r.minimal r.bytes.ghost_name _ c.self.invariant.1 (omega arith) c.self.invariant.3 refl

use Rattle.std.proofs.Common.{ℕ, length, refl, ap, sym, ◌∙◌, arith}
use Rattle.wasm_codec.specs.Rewriter.{resized, widened}
use Rattle.wasm_codec.specs.Leb128.{unsigned_leb128}
use Rattle.wasm_codec.proofs.BodyRewriting.{fits, same_size}
use Rattle.wasm_codec.proofs.rewriter.Rewriter.close_body.Goals as goal
use Rattle.wasm_codec.proofs.rewriter.Rewriter.close_body.Goals.{then-written_len-body, else-written_len-body}

pub put_size-requires-clause-fits : goal.put_size-requires-clause-fits
put_size-requires-clause-fits c =
    fits c.args.self.now.done c.args.body.mark c.u32_len-digits.result c.args.body.size (omega (arith, c.requires.shorter, c.u32_len-digits.ensures.value)) c.u32_len-digits.ensures.value

pub returns : goal.returns
returns c =
    let b = c.args.body in
    let d = c.u32_len-digits in
    c.leave_body.ensures ∙ c.widen.ensures ∙ ap (widened b.behind) (elim c.if-written_len-body.branch [
      | then-written_len-body w ↦ w.self-is ∙ w.put_size.ensures ∙ ap (λ (n : ℕ). resized b.mark n c.args.self.now) d.ensures.value
      | else-written_len-body w ↦ w.self-is ∙ sym (same_size c.args.self.now b.mark (length (unsigned_leb128 b.size)) b.size refl c.requires.begun (omega (arith, c.requires.shorter, d.ensures.value)) c.requires.sized)
    ])

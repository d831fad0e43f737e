use Rattle.std.proofs.Common.{◌≡◌, ℕ, Some, subst}
use Rattle.wasm_codec.specs.Rewriter.{rewritten_at}
use Rattle.wasm_codec.specs.formats.Combinators.{u32}
use Rattle.wasm_sections.proofs.SegmentLaws.{memory_left_out, number_there}
use Rattle.wasm_sections.proofs.data.rewrite_data_segment.Goals as goal

pub cut_out-requires : goal.cut_out-requires
cut_out-requires c =
    let begun = subst (λ (n : ℕ). rewritten_at u32 c.args.rewriter.now ≡ Some (n, c.u32.new.self)) c.in-2.is c.in_ok-number.ensures in
    number_there c.args.rewriter.now c.u32.new.self c.u32-in-2.new.self c.rewrite_active-in-2.new.rewriter c.in_ok-memory-in-2.memory c.written_len-mark.result begun c.in_ok-memory-in-2.ensures c.in_ok-rewrite_active-in-2.ensures.rewrites c.written_len-mark.ensures

pub returns-then-memory-eq0 : goal.returns-then-memory-eq0
returns-then-memory-eq0 c =
    let begun = subst (λ (n : ℕ). rewritten_at u32 c.args.rewriter.now ≡ Some (n, c.u32.new.self)) c.in-2.is c.in_ok-number.ensures in
    let named = subst (λ (n : ℕ). rewritten_at u32 c.u32.new.self ≡ Some (n, c.u32-in-2.new.self)) c.if-memory-eq0.true c.in_ok-memory-in-2.ensures in
    record { rewrites = rw c.cut_out.ensures (memory_left_out c.args.rewriter.now c.u32.new.self c.u32-in-2.new.self c.rewrite_active-in-2.new.rewriter c.written_len-mark.result begun named c.in_ok-rewrite_active-in-2.ensures.rewrites c.written_len-mark.ensures) }

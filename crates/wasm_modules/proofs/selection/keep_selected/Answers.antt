use Rattle.std.proofs.Common.{◌∙◌, ◌-◌, ◌<◌, ℕ, List, length, refl, sym, ap, subst, arith}
use Rattle.std.proofs.lemmas.List.{nil_from_length}
use Rattle.wasm_codec.specs.Rewriter.{Rewriting}
use Rattle.wasm_codec.proofs.RewriterLaws.{is_after}
use Rattle.wasm_code.specs.formats.Sections.{SectionParts}
use Rattle.wasm_code.specs.formats.Modules.{raw_section}
use Rattle.wasm_modules.specs.Selections.{ChoosesNext}
use Rattle.wasm_modules.proofs.SelectionLaws.{selecting_kept, selecting_dropped, selected_nowhere, is_rewritten, rewritten_fewer}
use Rattle.wasm_modules.proofs.selection.keep_selected.Goals as goal

pub loop-rewriter-init : goal.loop-rewriter-init
loop-rewriter-init c = (refl, λ bytes selects. selects)

pub loop-rewriter-smaller-then-dropped : goal.loop-rewriter-smaller-then-dropped
loop-rewriter-smaller-then-dropped c =
    let rewritten = is_rewritten c.loop-rewriter.rewriter c.rewrite_raw_section.new.rewriter c.rewrite_raw_section.result c.rewrite_raw_section.ensures.rewrites (sym c.is_err.ensures.value ∙ c.if-is_err.false) in
    omega (arith, rewritten_fewer c.loop-rewriter.rewriter c.rewrite_raw_section.new.rewriter c.are_bytes.ensures rewritten, ap (λ (r : Rewriting). length r.place.left) c.cut_out.ensures)

pub loop-rewriter-preserved-then-dropped : goal.loop-rewriter-preserved-then-dropped
loop-rewriter-preserved-then-dropped c =
    let some : 0 < length c.loop-rewriter.rewriter.place.left = omega (arith, c.loop-rewriter-test.true, c.len.ensures) in
    let chooses : ChoosesNext c.args.selection c.loop-rewriter.rewriter.place.left c.next_is_dropped-dropped.result = subst (λ (l : List ℕ). ChoosesNext c.args.selection l c.next_is_dropped-dropped.result) c.left.ensures c.next_is_dropped-dropped.ensures.next in
    let rewritten = is_rewritten c.loop-rewriter.rewriter c.rewrite_raw_section.new.rewriter c.rewrite_raw_section.result c.rewrite_raw_section.ensures.rewrites (sym c.is_err.ensures.value ∙ c.if-is_err.false) in
    let same = ap (λ (r : Rewriting). r.rest) c.cut_out.ensures ∙ (is_after raw_section c.loop-rewriter.rewriter c.rewrite_raw_section.new.rewriter rewritten).given.rest in (
      same ∙ c.loop-rewriter.invariant.0,
      λ bytes selects. selecting_dropped c.args.selection bytes c.loop-rewriter.rewriter c.rewrite_raw_section.new.rewriter c.next_is_dropped-dropped.result (c.loop-rewriter.invariant.1 bytes selects) some chooses rewritten c.written_len-mark.result (c.written_len.result - c.written_len-mark.result) c.cut_out.new.self c.written_len-mark.ensures (omega (arith, c.written_len.ensures)) c.cut_out.ensures c.if-dropped.true,
    )

pub loop-rewriter-smaller : goal.loop-rewriter-smaller
loop-rewriter-smaller c =
    let rewritten = is_rewritten c.loop-rewriter.rewriter c.rewrite_raw_section.new.rewriter c.rewrite_raw_section.result c.rewrite_raw_section.ensures.rewrites (sym c.is_err.ensures.value ∙ c.if-is_err.false) in
    rewritten_fewer c.loop-rewriter.rewriter c.rewrite_raw_section.new.rewriter c.are_bytes.ensures rewritten

pub loop-rewriter-preserved : goal.loop-rewriter-preserved
loop-rewriter-preserved c =
    let some : 0 < length c.loop-rewriter.rewriter.place.left = omega (arith, c.loop-rewriter-test.true, c.len.ensures) in
    let chooses : ChoosesNext c.args.selection c.loop-rewriter.rewriter.place.left c.next_is_dropped-dropped.result = subst (λ (l : List ℕ). ChoosesNext c.args.selection l c.next_is_dropped-dropped.result) c.left.ensures c.next_is_dropped-dropped.ensures.next in
    let rewritten = is_rewritten c.loop-rewriter.rewriter c.rewrite_raw_section.new.rewriter c.rewrite_raw_section.result c.rewrite_raw_section.ensures.rewrites (sym c.is_err.ensures.value ∙ c.if-is_err.false) in (
      (is_after raw_section c.loop-rewriter.rewriter c.rewrite_raw_section.new.rewriter rewritten).given.rest ∙ c.loop-rewriter.invariant.0,
      λ bytes selects. selecting_kept c.args.selection bytes c.loop-rewriter.rewriter c.rewrite_raw_section.new.rewriter c.next_is_dropped-dropped.result (c.loop-rewriter.invariant.1 bytes selects) some chooses rewritten c.if-dropped.false,
    )

pub returns : goal.returns
returns c = record {
  rest = λ _. c.loop-rewriter.invariant.0;
  end = λ _. nil_from_length c.loop-rewriter.rewriter.place.left (omega (arith, c.loop-rewriter-test.false, c.len.ensures));
  ok = λ _. c.loop-rewriter.invariant.1;
  none = λ wrong. absurd cc;
}

pub returns-then-is_err : goal.returns-then-is_err
returns-then-is_err c =
    let some : 0 < length c.loop-rewriter.rewriter.place.left = omega (arith, c.loop-rewriter-test.true, c.len.ensures) in
    record {
      rest = λ wrong. absurd cc;
      end = λ wrong. absurd cc;
      ok = λ wrong. absurd cc;
      none = λ _ bytes selects. selected_nowhere c.args.selection bytes c.loop-rewriter.rewriter c.rewrite_raw_section.new.rewriter c.rewrite_raw_section.result (λ (sections : List SectionParts). ⊥) (c.loop-rewriter.invariant.1 bytes selects) some c.rewrite_raw_section.ensures.rewrites (sym c.is_err.ensures.value ∙ c.if-is_err.true);
    }

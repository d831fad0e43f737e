use Rattle.std.proofs.Common.{◌∙◌, ◌<◌, length, refl, Err, subst, arith}
use Rattle.std.proofs.lemmas.List.{nil_from_length}
use Rattle.wasm_codec.specs.declared.reader.cursor.Fault.{Fault}
use Rattle.wasm_custom_sections.specs.MinimalContents.{MinimisesNext}
use Rattle.wasm_custom_sections.proofs.ContentsLaws.{minimising_more, minimised_nowhere, written_fewer}
use Rattle.wasm_custom_sections.proofs.contents.rewrite_sections.Goals as goal

pub loop-alloc-init : goal.loop-alloc-init
loop-alloc-init c = (refl, λ bytes so_far. so_far)

pub loop-alloc-smaller : goal.loop-alloc-smaller
loop-alloc-smaller c = written_fewer c.loop-alloc.rewriter c.rewrite_next.new.rewriter c.are_bytes.ensures c.in-Ok.ensures.next

pub loop-alloc-preserved : goal.loop-alloc-preserved
loop-alloc-preserved c =
    let some : 0 < length c.loop-alloc.rewriter.place.left = omega (arith, c.loop-alloc-test.true, c.len.ensures) in (
      c.in-Ok.ensures.next.rest ∙ c.loop-alloc.invariant.0,
      λ bytes so_far. minimising_more bytes c.loop-alloc.rewriter c.rewrite_next.new.rewriter (c.loop-alloc.invariant.1 bytes so_far) some c.in-Ok.ensures.next,
    )

pub returns-in-Err-Malformed : goal.returns-in-Err-Malformed
returns-in-Err-Malformed c =
    let some : 0 < length c.loop-alloc.rewriter.place.left = omega (arith, c.loop-alloc-test.true, c.len.ensures) in
    let none = subst (λ (f : Fault). MinimisesNext c.loop-alloc.rewriter c.rewrite_next.new.rewriter (Err f)) c.in-Err-Malformed.field-0-is c.in-Err-Malformed.ensures.next in
    record { rest = λ bytes so_far. minimised_nowhere bytes c.loop-alloc.rewriter (c.loop-alloc.invariant.1 bytes so_far) some none }

pub returns : goal.returns
returns c = record {
  rest = record {
    rest = c.loop-alloc.invariant.0;
    end = nil_from_length c.loop-alloc.rewriter.place.left (omega (arith, c.loop-alloc-test.false, c.len.ensures));
    minimises = c.loop-alloc.invariant.1;
  };
}

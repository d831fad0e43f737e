use Rattle.std.proofs.Common.{◌∙◌, arith, refl}
use Rattle.wasm_custom_sections.proofs.MovedOffsetLaws.{are_locals, locals_within, no_locals}
use Rattle.wasm_custom_sections.proofs.moved_hints.offsets.locals_of.Goals as goal

pub overflow_sub-result : goal.overflow_sub-result
overflow_sub-result c = omega (arith, c.len.ensures, locals_within c.args.body.now c.as_mut_slice.result.now c.new-rewriter.result c.rewrite_locals.new.rewriter c.are_bytes.ensures c.new-rewriter.ensures (c.as_mut_slice.ensures.value ∙ c.in_ok-copy.ensures.items) c.in-Ok.ensures.rewrites)

pub returns-in-Ok-clause-locals : goal.returns-in-Ok-clause-locals
returns-in-Ok-clause-locals c = are_locals c.args.body.now c.as_mut_slice.result.now c.new-rewriter.result c.rewrite_locals.new.rewriter c.are_bytes.ensures c.new-rewriter.ensures (c.as_mut_slice.ensures.value ∙ c.in_ok-copy.ensures.items) c.in-Ok.ensures.rewrites c.len.result _ c.written_len.result c.len.ensures refl c.written_len.ensures

pub returns-clause-none : goal.returns-clause-none
returns-clause-none c = no_locals c.args.body.now c.as_mut_slice.result.now c.new-rewriter.result c.rewrite_locals.new.rewriter c.in-Err.field-0 c.new-rewriter.ensures (c.as_mut_slice.ensures.value ∙ c.in_ok-copy.ensures.items) c.in-Err.ensures.rewrites

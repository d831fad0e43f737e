use Rattle.std.proofs.Common.{Bool, Ok, subst}
use Rattle.wasm_custom_sections.specs.MinimalContents.{MinimisesRest, WritesRest}
use Rattle.wasm_custom_sections.proofs.ContentsLaws.{minimising_none, minimised_all}
use Rattle.wasm_custom_sections.proofs.contents.minimise_slice.Goals as goal

pub returns-in_default-clause-none : goal.returns-in_default-clause-none
returns-in_default-clause-none c = λ sections g. c.in_default.ensures.missing g.0 g.1

pub returns-in-Ok-true-clause-ok : goal.returns-in-Ok-true-clause-ok
returns-in-Ok-true-clause-ok c =
    let start = minimising_none c.args.bytes.now c.in-Some._sections.now c.new-rewriter.result c.skip.new.self c.in-Some.ensures.found c.new-rewriter.ensures c.skip.ensures in
    let rest : WritesRest c.skip.new.self c.rewrite_sections.new.rewriter = subst (λ (b : Bool). MinimisesRest c.skip.new.self c.rewrite_sections.new.rewriter (Ok b)) c.in-Ok-true.field-0-test c.in-Ok-true.ensures.rest in
    rw c.finish-bytes.ensures.done (minimised_all c.args.bytes.now c.rewrite_sections.new.rewriter (rest.minimises c.args.bytes.now start) rest.end)

pub returns-in-Ok-false-clause-none : goal.returns-in-Ok-false-clause-none
returns-in-Ok-false-clause-none c =
    let start = minimising_none c.args.bytes.now c.in-Some._sections.now c.new-rewriter.result c.skip.new.self c.in-Some.ensures.found c.new-rewriter.ensures c.skip.ensures in
    subst (λ (b : Bool). MinimisesRest c.skip.new.self c.rewrite_sections.new.rewriter (Ok b)) c.in-Ok-false.field-0-test c.in-Ok-false.ensures.rest c.args.bytes.now start

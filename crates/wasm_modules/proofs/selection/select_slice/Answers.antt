use Rattle.std.proofs.Common.{◌∙◌, ap}
use Rattle.wasm_codec.specs.Rewriter.{Rest, Rewriting, skipped}
use Rattle.wasm_modules.proofs.SelectionLaws.{minimal_left, selecting_none, selected_all}
use Rattle.wasm_modules.proofs.selection.select_slice.Goals as goal

pub returns-in_default-clause-none : goal.returns-in_default-clause-none
returns-in_default-clause-none c = λ sections g. c.in_default.ensures.missing g.0 g.1

pub returns-then-keep_selected-clause-ok : goal.returns-then-keep_selected-clause-ok
returns-then-keep_selected-clause-ok c =
    let start = selecting_none c.args.selection c.args.bytes.now c.in-Some._sections.now c.new-rewriter.result c.skip.new.self c.in-Some.ensures.found c.new-rewriter.ensures c.skip.ensures in
    let kept = c.if-keep_selected.true in
    rw c.finish-bytes.ensures.done (selected_all c.args.selection c.args.bytes.now c.keep_selected.new.rewriter (c.keep_selected.ensures.ok kept c.args.bytes.now start) (c.keep_selected.ensures.end kept))

pub returns-then-keep_selected-clause-minimal : goal.returns-then-keep_selected-clause-minimal
returns-then-keep_selected-clause-minimal c =
    let start = selecting_none c.args.selection c.args.bytes.now c.in-Some._sections.now c.new-rewriter.result c.skip.new.self c.in-Some.ensures.found c.new-rewriter.ensures c.skip.ensures in
    let kept = c.if-keep_selected.true in
    let all = selected_all c.args.selection c.args.bytes.now c.keep_selected.new.rewriter (c.keep_selected.ensures.ok kept c.args.bytes.now start) (c.keep_selected.ensures.end kept) in
    rw c.finish-bytes.ensures.done (minimal_left c.args.selection c.args.bytes.now c.keep_selected.new.rewriter.done all)

pub returns-then-keep_selected-clause-same_reference : goal.returns-then-keep_selected-clause-same_reference
returns-then-keep_selected-clause-same_reference c =
    c.finish-bytes.ensures.same_reference ∙ ap (λ (r : Rest). r.name) (c.keep_selected.ensures.rest c.if-keep_selected.true ∙ ap (λ (r : Rewriting). r.rest) (c.skip.ensures ∙ ap (skipped 8) c.new-rewriter.ensures))

pub returns-else-keep_selected-clause-none : goal.returns-else-keep_selected-clause-none
returns-else-keep_selected-clause-none c =
    let start = selecting_none c.args.selection c.args.bytes.now c.in-Some._sections.now c.new-rewriter.result c.skip.new.self c.in-Some.ensures.found c.new-rewriter.ensures c.skip.ensures in
    c.keep_selected.ensures.none c.if-keep_selected.false c.args.bytes.now start

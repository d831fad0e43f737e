use Rattle.std.proofs.Common.{Ok, Err}
use Rattle.std.proofs.lemmas.Result.{err_from_is_err_and}
use Rattle.wasm_modules.proofs.CountingLaws.{no_section, section_rewritten, section_counted}
use Rattle.wasm_modules.proofs.counting.CountingRewriter.rewrite_section.Goals as goal

pub returns-in_err-id-clause-rewrites : goal.returns-in_err-id-clause-rewrites
returns-in_err-id-clause-rewrites c =
    let p = err_from_is_err_and c.from_residual.result c.from_residual.ensures.1 in
    rw (p.1, p.2) (no_section c.args.self.now.rewriter c.byte_of.new.self c.in_err-id.field-0.0 c.in_err-id.ensures)

pub returns-in-Ok-clause-rewrites : goal.returns-in-Ok-clause-rewrites
returns-in-Ok-clause-rewrites c = section_rewritten c.args.self.now.rewriter c.byte_of.new.self c.visit_section.new.visitor.rewriter (Ok c.in-Ok.counts) c.in_ok-id.ensures c.in-Ok.ensures.visits

pub returns-in-Ok-clause-counts : goal.returns-in-Ok-clause-counts
returns-in-Ok-clause-counts c = section_counted c.args.self.now.rewriter c.byte_of.new.self c.visit_section.new.visitor.rewriter c.in-Ok.counts c.are_bytes.ensures c.in_ok-id.ensures c.in-Ok.ensures.visits

pub returns-in-Err-Malformed-clause-rewrites : goal.returns-in-Err-Malformed-clause-rewrites
returns-in-Err-Malformed-clause-rewrites c =
    let rewritten = section_rewritten c.args.self.now.rewriter c.byte_of.new.self c.visit_section.new.visitor.rewriter (Err c.in-Err-Malformed.field-0) c.in_ok-id.ensures c.in-Err-Malformed.ensures.visits in
    rw c.in-Err-Malformed.field-0-is at rewritten

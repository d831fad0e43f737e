use Rattle.wasm_codec.proofs.DecodingLaws.{error_is}
use Rattle.std.proofs.Common.{◌≡◌, ◌-◌, length, subst, arith}
use Rattle.wasm_codec.proofs.RewriterLaws.{is_after}
use Rattle.wasm_sections.specs.Prefixes.{IsRefusedAt}
use Rattle.wasm_sections.proofs.ValueReading.{rewrites_malformed, refuses_rewriting, whole_none, whole_within, whole_left_over, whole_given}
use Rattle.wasm_sections.proofs.bodies.rewrite_whole_body.Goals as goal

pub returns-in-Err-clause-rewrites : goal.returns-in-Err-clause-rewrites
returns-in-Err-clause-rewrites g c = rw (c.new.ensures.error, error_is c.in-Err.fault 0 (rewrites_malformed g.T.RewritableBody.format c.args.rewriter.now c.rewrite.new.rewriter c.in-Err.fault c.in-Err.ensures.rewrites)) (refuses_rewriting g.T.RewritableBody.format c.args.rewriter.now.place.left 0 (whole_none c.is_lawful.ensures c.prefixes_are_lawful.ensures c.args.rewriter.now.place.left c.args.rewriter.now c.rewrite.new.rewriter c.requires c.in-Err.fault c.in-Err.ensures.rewrites))

pub overflow_sub-len : goal.overflow_sub-len
overflow_sub-len g c =
    let within = whole_within c.is_lawful.ensures c.prefixes_are_lawful.ensures c.args.rewriter.now.place.left c.args.rewriter.now c.rewrite.new.rewriter c.requires c.are_bytes.ensures c.in_default.ensures.rewrites in
    omega (arith, within, c.len-left.ensures)

pub returns-then-left-gt0-clause-rewrites : goal.returns-then-left-gt0-clause-rewrites
returns-then-left-gt0-clause-rewrites g c =
    let at : length c.args.rewriter.now.place.left - length c.rewrite.new.rewriter.place.left ≡ c.len-len.result - c.len-left.result = omega (arith, c.len-left.ensures) in
    rw c.refused.ensures.error (refuses_rewriting g.T.RewritableBody.format c.args.rewriter.now.place.left (c.len-len.result - c.len-left.result) (subst (IsRefusedAt g.T.RewritableBody.format c.args.rewriter.now.place.left) at (whole_left_over c.is_lawful.ensures c.prefixes_are_lawful.ensures c.args.rewriter.now.place.left c.args.rewriter.now c.rewrite.new.rewriter c.requires c.are_bytes.ensures c.in_default.ensures.rewrites (omega (arith, c.if-left-gt0.true, c.len-left.ensures)))))

pub returns-clause-rewrites : goal.returns-clause-rewrites
returns-clause-rewrites g c =
    let given = whole_given c.is_lawful.ensures c.prefixes_are_lawful.ensures c.args.rewriter.now.place.left c.args.rewriter.now c.rewrite.new.rewriter c.requires c.are_bytes.ensures c.in_default.ensures.rewrites (omega (arith, c.if-left-gt0.false, c.len-left.ensures)) in
    record { given = given; prefix = tt; unencoded = tt }

pub returns-clause-rest : goal.returns-clause-rest
returns-clause-rest g c = (is_after g.T.RewritableBody.format c.args.rewriter.now c.rewrite.new.rewriter c.in_default.ensures.rewrites).given.rest

use Rattle.std.proofs.Common.{◌≡◌, [], arith}
use Rattle.std.proofs.lemmas.List.{nil_from_length}
use Rattle.std.proofs.lemmas.Result.{err_from_is_err_and}
use Rattle.wasm_codec.proofs.BodyRewriting.{body_done}
use Rattle.wasm_codec.proofs.RefusalNumbers.{breaks_in_opened}
use Rattle.wasm_lists.proofs.rewriting.rewrite_sized.Goals as goal

pub close_body-requires-clause-shorter : goal.close_body-requires-clause-shorter
close_body-requires-clause-shorter g c =
    let none : c.rewrite.new.rewriter.place.left ≡ [] = nil_from_length c.rewrite.new.rewriter.place.left (omega arith) in
    let b = c.in-Ok.body in
    (body_done c.is_lawful.ensures c.args.rewriter.now c.open_body.new.self c.rewrite.new.rewriter b.mark b.size b.behind c.are_bytes.ensures c.in-Ok.ensures (rw c.end_part.ensures at c.in_ok-rewrite.ensures.rewrites) none).shorter

pub returns-in_err-rewrite-clause-names : goal.returns-in_err-rewrite-clause-names
returns-in_err-rewrite-clause-names g c =
    let p = err_from_is_err_and c.from_residual.result c.from_residual.ensures.1 in
    let b = c.in-Ok.body in
    let fault = c.in_err-rewrite.field-0.0 in
    rw (p.1, p.2) (breaks_in_opened (Unit {0}) (Unit {0}) g.T.RewritableBody.Breaks c.args.rewriter.now c.open_body.new.self b.mark b.size b.behind fault c.are_bytes.ensures c.in-Ok.ensures (rw c.end_part.ensures at (c.in_err-rewrite.ensures.names)))

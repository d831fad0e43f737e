use Rattle.std.proofs.Common.{◌≡◌, [], arith}
use Rattle.std.proofs.lemmas.List.{nil_from_length}
use Rattle.wasm_codec.proofs.BodyRewriting.{body_done}
use Rattle.wasm_sections.proofs.ModuleSectionLaws.{list_body_is_lawful}
use Rattle.wasm_modules.proofs.CountingLaws.{sized_counted}
use Rattle.wasm_modules.proofs.counting.rewrite_sized_list.Goals as goal

pub close_body-requires-clause-shorter : goal.close_body-requires-clause-shorter
close_body-requires-clause-shorter g c =
    let none : c.rewrite_list.new.rewriter.place.left ≡ [] = nil_from_length c.rewrite_list.new.rewriter.place.left (omega arith) in
    let b = c.in_ok-body.body in
    (body_done (list_body_is_lawful c.is_lawful.ensures.lawful) c.args.rewriter.now c.open_body.new.self c.rewrite_list.new.rewriter b.mark b.size b.behind c.are_bytes.ensures c.in_ok-body.ensures c.in_ok-counts.ensures.rewrites none).shorter

pub returns-clause-counts : goal.returns-clause-counts
returns-clause-counts g c =
    let none : c.rewrite_list.new.rewriter.place.left ≡ [] = nil_from_length c.rewrite_list.new.rewriter.place.left (omega arith) in
    let b = c.in_ok-body.body in
    sized_counted g.T.Rewritable.format c.args.rewriter.now c.open_body.new.self c.rewrite_list.new.rewriter b.mark b.size b.behind c.in_ok-counts.counts c.are_bytes.ensures c.in_ok-body.ensures c.in_ok-counts.ensures.counts none

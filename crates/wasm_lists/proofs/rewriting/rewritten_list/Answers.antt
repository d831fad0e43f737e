use Rattle.std.proofs.Common.{[], true, ap, ◌∙◌, sym}
use Rattle.wasm_codec.specs.Places.{place}
use Rattle.wasm_codec.specs.Rewriter.{Rest, Rewriting, rest_of, rewriting}
use Rattle.wasm_lists.proofs.rewriting.rewritten_list.Goals as goal

pub rewrite_whole_list-requires : goal.rewrite_whole_list-requires
rewrite_whole_list-requires g c =
    c.new-rewriter.ensures ∙ ap (λ (r : Rewriting). rewriting [] (place true r.place.left) (rest_of [] r.rest.name)) (sym c.new-rewriter.ensures)

pub returns-in-Ok-clause-same_reference : goal.returns-in-Ok-clause-same_reference
returns-in-Ok-clause-same_reference g c =
    rw c.new.ensures.ok (c.new.ensures.same_reference ∙ ap (λ (r : Rest). r.name) (c.in-Ok.ensures.rest ∙ ap (λ (r : Rewriting). r.rest) c.new-rewriter.ensures))

pub returns-in-Ok-clause-rewrites : goal.returns-in-Ok-clause-rewrites
returns-in-Ok-clause-rewrites g c =
    rw (c.new.ensures.ok, c.new.ensures.done, ap (λ (r : Rewriting). r.place.left) (sym c.new-rewriter.ensures)) c.in-Ok.ensures.rewrites

use Rattle.std.proofs.Common.{ap, subst, ◌∙◌}
use Rattle.wasm_codec.specs.formats.Grammar.{IsBytes}
use Rattle.wasm_codec.specs.Rewriter.{Rewriting, Rest, StopsAt}
use Rattle.wasm_codec.proofs.RewriterLaws.{is_after}
use Rattle.wasm_codec.specs.formats.Bodies.{to_end}
use Rattle.wasm_codec.proofs.BodyRewriting.{joined_given}
use Rattle.wasm_codec.proofs.RefusalNumbers.{stop_prefix, stop_within, stops_at}
use Rattle.wasm_lists.proofs.rewriting.rewritten_items.Goals as goal

pub returns-in-Ok-clause-given : goal.returns-in-Ok-clause-given
returns-in-Ok-clause-given g c =
    let law = c.is_lawful.ensures in
    let fits : IsBytes c.args.bytes.now = subst IsBytes (ap (λ (r : Rewriting). r.place.left) c.new-rewriter.ensures) c.are_bytes.ensures in
    rw (c.new.ensures.ok, c.new.ensures.done) (joined_given law.lawful law.some c.new-rewriter.result c.rewrite_joined.new.rewriter c.args.bytes.now fits c.new-rewriter.ensures c.in-Ok.ensures.rewrites.0 c.in-Ok.ensures.rewrites.1)

pub returns-in-Err-clause-prefix : goal.returns-in-Err-clause-prefix
returns-in-Err-clause-prefix g c =
    let law = c.is_lawful.ensures in
    let stop : StopsAt g.T.Rewritable.format c.args.bytes.now c.in-Err.stop.left = subst (λ (r : Rewriting). StopsAt g.T.Rewritable.format r.place.left c.in-Err.stop.left) c.new-rewriter.ensures c.in-Err.ensures.rewrites.0 in
    rw (c.new-in-Err.ensures.err, c.stopped.ensures.error) (stop_prefix g.T.Rewritable.format c.args.bytes.now c.in-Err.stop (stops_at law.lawful law.some c.args.bytes.now c.in-Err.stop stop))

pub returns-in-Err-clause-within : goal.returns-in-Err-clause-within
returns-in-Err-clause-within g c =
    let law = c.is_lawful.ensures in
    let stop : StopsAt g.T.Rewritable.format c.args.bytes.now c.in-Err.stop.left = subst (λ (r : Rewriting). StopsAt g.T.Rewritable.format r.place.left c.in-Err.stop.left) c.new-rewriter.ensures c.in-Err.ensures.rewrites.0 in
    rw (c.new-in-Err.ensures.err, c.stopped.ensures.error) (stop_within g.T.Rewritable.format c.args.bytes.now c.in-Err.stop (stops_at law.lawful law.some c.args.bytes.now c.in-Err.stop stop))

pub returns-in-Ok-clause-same_reference : goal.returns-in-Ok-clause-same_reference
returns-in-Ok-clause-same_reference g c =
    rw c.new.ensures.ok (c.new.ensures.same_reference ∙ ap (λ (r : Rest). r.name) ((is_after (to_end g.T.Rewritable.format) c.new-rewriter.result c.rewrite_joined.new.rewriter c.in-Ok.ensures.rewrites.0).given.rest ∙ ap (λ (r : Rewriting). r.rest) c.new-rewriter.ensures))

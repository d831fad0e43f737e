use Rattle.std.proofs.Common.{◌≡◌, ◌∙◌, ◌-◌, ℕ, length, subst, arith}
use Rattle.wasm_codec.proofs.DecodingLaws.{error_is}
use Rattle.wasm_sections.specs.Prefixes.{IsRefusedAt}
use Rattle.wasm_codec.specs.formats.Bodies.{to_end}
use Rattle.wasm_codec.proofs.RewriterLaws.{is_after}
use Rattle.wasm_custom_sections.specs.formats.Linking.{linking_data, linking_subsection, version}
use Rattle.wasm_custom_sections.proofs.LinkingLaws.{headed_normal, no_version_rewritten, rest_refused, subsection_is_lawful, subsection_takes, version_is_lawful}
use Rattle.wasm_custom_sections.proofs.linking.rewrite_whole_linking.Goals as goal

pub returns-in-Err-clause-rewrites : goal.returns-in-Err-clause-rewrites
returns-in-Err-clause-rewrites c = rw c.new.ensures.error (no_version_rewritten c.args.rewriter.now.place.left c.args.rewriter.now c.rewrite_version.new.rewriter c.in-Err.fault c.requires c.in-Err.ensures.rewrites)

pub returns-in-Ok-clause-rewrites : goal.returns-in-Ok-clause-rewrites
returns-in-Ok-clause-rewrites c =
    let normal = headed_normal version_is_lawful subsection_is_lawful subsection_takes c.args.rewriter.now.place.left c.args.rewriter.now c.rewrite_version.new.rewriter c.requires c.are_bytes.ensures c.in_default.ensures.rewrites c.rewrite_joined.new.rewriter c.in-Ok.ensures.rewrites.0 c.in-Ok.ensures.rewrites.1 in
    record { given = normal; prefix = tt; unencoded = tt }

pub returns-in-Err-rewrite_joined-clause-rewrites : goal.returns-in-Err-rewrite_joined-clause-rewrites
returns-in-Err-rewrite_joined-clause-rewrites c =
    let len : length c.args.rewriter.now.place.left ≡ c.len-len.result = omega arith in
    let refused = rest_refused version_is_lawful subsection_is_lawful subsection_takes c.args.rewriter.now.place.left c.args.rewriter.now c.rewrite_version.new.rewriter c.requires c.are_bytes.ensures c.in_default.ensures.rewrites c.in-Err-rewrite_joined.stop.left c.in-Err-rewrite_joined.ensures.rewrites.0 in
    let at = subst (λ (n : ℕ). IsRefusedAt linking_data c.args.rewriter.now.place.left (n - c.in-Err-rewrite_joined.stop.left)) len refused in
    rw (c.stopped.ensures.error, error_is c.in-Err-rewrite_joined.stop.fault (c.len-len.result - c.in-Err-rewrite_joined.stop.left) c.in-Err-rewrite_joined.ensures.rewrites.1.1) (record { given = tt; prefix = at.prefix; unencoded = at.unencoded })

pub returns-in-Ok-clause-rest : goal.returns-in-Ok-clause-rest
returns-in-Ok-clause-rest c =
    (is_after (to_end linking_subsection) c.rewrite_version.new.rewriter c.rewrite_joined.new.rewriter c.in-Ok.ensures.rewrites.0).given.rest ∙ (is_after version c.args.rewriter.now c.rewrite_version.new.rewriter c.in_default.ensures.rewrites).given.rest

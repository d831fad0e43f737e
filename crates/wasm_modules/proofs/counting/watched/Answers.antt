use Rattle.wasm_codec.proofs.DecodingLaws.{error_is}
use Rattle.std.proofs.Common.{◌≡◌, ◌-◌, ◌++◌, length, ap, ◌∙◌}
use Rattle.wasm_codec.specs.Rewriter.{Rest, Rewriting, skipped}
use Rattle.wasm_codec.specs.formats.Bodies.{to_end}
use Rattle.wasm_codec.proofs.RewriterLaws.{is_after}
use Rattle.wasm_code.specs.formats.Sections.{header}
use Rattle.wasm_code.proofs.ModuleFormatLaws.{after_header_is, headed_normal, headed_refused}
use Rattle.wasm_sections.proofs.ModuleSectionLaws.{module_section_is_lawful, module_section_takes}
use Rattle.wasm_sections.specs.formats.ModuleSections.{module_section}
use Rattle.wasm_modules.proofs.counting.watched.Goals as goal

pub returns-in-Ok-clause-rewrites : goal.returns-in-Ok-clause-rewrites
returns-in-Ok-clause-rewrites g c =
    let body = c.in-Some._sections.now in
    let found : c.args.bytes.now ≡ header ++ body = c.in-Some.ensures.found in
    let start = after_header_is c.args.bytes.now body c.skip.new.self found (c.skip.ensures ∙ ap (skipped 8) c.new.ensures) in
    let normal = headed_normal module_section_is_lawful module_section_takes c.args.bytes.now body c.skip.new.self c.rewrite_sections.new.counting.rewriter found start c.are_bytes.ensures c.in-Ok.ensures.rewrites.0 c.in-Ok.ensures.rewrites.1 in
    rw c.new-in-Ok.ensures.ok (record { given = rw c.new-in-Ok.ensures.done normal; prefix = tt; unencoded = tt })

pub returns-in-Err-clause-rewrites : goal.returns-in-Err-clause-rewrites
returns-in-Err-clause-rewrites g c =
    let body = c.in-Some._sections.now in
    let found : c.args.bytes.now ≡ header ++ body = c.in-Some.ensures.found in
    let start = after_header_is c.args.bytes.now body c.skip.new.self found (c.skip.ensures ∙ ap (skipped 8) c.new.ensures) in
    let refused = headed_refused module_section_is_lawful module_section_takes c.args.bytes.now body c.skip.new.self c.in-Err.stop.left found start c.in-Err.ensures.rewrites.0 in
    rw (c.new-in-Err.ensures.err, c.numbered.ensures.error, c.stopped.ensures.error, error_is c.in-Err.stop.fault (length c.args.bytes.now - c.in-Err.stop.left) c.in-Err.ensures.rewrites.1.1) (record { given = tt; prefix = refused.prefix; unencoded = refused.unencoded })

pub returns-in-Ok-clause-same_reference : goal.returns-in-Ok-clause-same_reference
returns-in-Ok-clause-same_reference g c =
    rw c.new-in-Ok.ensures.ok (c.new-in-Ok.ensures.same_reference ∙ ap (λ (r : Rest). r.name) ((is_after (to_end module_section) c.skip.new.self c.rewrite_sections.new.counting.rewriter c.in-Ok.ensures.rewrites.0).given.rest ∙ ap (λ (r : Rewriting). r.rest) (c.skip.ensures ∙ ap (skipped 8) c.new.ensures)))

use Rattle.wasm_codec.proofs.DecodingLaws.{error_is}
use Rattle.std.proofs.Common.{◌≡◌, ◌-◌, ◌++◌, ℕ, List, IfSome, length, refl, ap, ◌∙◌, subst}
use Rattle.wasm_codec.specs.Outcomes.{error_of, read_error_of}
use Rattle.wasm_codec.specs.Rewriter.{Rest, Rewriting, CountsPassed, StopsBehind, StopsInItem, skipped}
use Rattle.wasm_codec.proofs.RewriterLaws.{is_after}
use Rattle.wasm_codec.specs.formats.Bodies.{to_end}
use Rattle.wasm_codec.proofs.RefusalNumbers.{stops_at}
use Rattle.wasm_lists.specs.Longer.{CountsFirst, TellsFirst}
use Rattle.wasm_code.proofs.SectionStops.{counts_none, counts_sections, names_item, names_none, numbers_first}
use Rattle.wasm_code.specs.formats.Sections.{header}
use Rattle.wasm_code.proofs.ModuleFormatLaws.{after_header_is, headed_normal, headed_refused, headless}
use Rattle.wasm_code.proofs.CheckedModules.{checked_module}
use Rattle.wasm_code.proofs.longer.checked_module_of.Goals as goal

pub returns-in-Ok-clause-rewrites : goal.returns-in-Ok-clause-rewrites
returns-in-Ok-clause-rewrites g c =
    let law = c.is_lawful.ensures in
    let body = c.in-Some._sections.now in
    let found : c.args.bytes.now ≡ header ++ body = c.in-Some.ensures.found in
    let start = after_header_is c.args.bytes.now body c.skip.new.self found (c.skip.ensures ∙ ap (skipped 8) c.new-rewriter.ensures) in
    let normal = headed_normal law.lawful law.some c.args.bytes.now body c.skip.new.self c.rewrite_and_check_items.new.rewriter found start c.are_bytes.ensures c.in-Ok.ensures.checks.0 c.in-Ok.ensures.checks.1.0 in
    record { given = rw c.finish-bytes.ensures.done normal; prefix = tt; unencoded = tt }

pub returns-in-Ok-clause-checks : goal.returns-in-Ok-clause-checks
returns-in-Ok-clause-checks g c =
    let law = c.is_lawful.ensures in
    let body = c.in-Some._sections.now in
    let found : c.args.bytes.now ≡ header ++ body = c.in-Some.ensures.found in
    let start = after_header_is c.args.bytes.now body c.skip.new.self found (c.skip.ensures ∙ ap (skipped 8) c.new-rewriter.ensures) in
    rw c.longer_part-longer.ensures.verdict (checked_module law.lawful law.some c.args.bytes.now body c.skip.new.self (length c.args.bytes.now) c.in-Ok.first found start refl c.in-Ok.ensures.checks.1.1)

pub returns-in-Err-clause-rewrites : goal.returns-in-Err-clause-rewrites
returns-in-Err-clause-rewrites g c =
    let law = c.is_lawful.ensures in
    let body = c.in-Some._sections.now in
    let found : c.args.bytes.now ≡ header ++ body = c.in-Some.ensures.found in
    let start = after_header_is c.args.bytes.now body c.skip.new.self found (c.skip.ensures ∙ ap (skipped 8) c.new-rewriter.ensures) in
    let refused = headed_refused law.lawful law.some c.args.bytes.now body c.skip.new.self c.in-Err.stop.left found start c.in-Err.ensures.checks.0 in
    rw (c.numbered.ensures.error, c.new.ensures.error, error_is c.in-Err.stop.fault (length c.args.bytes.now - c.in-Err.stop.left) c.in-Err.ensures.checks.1) (record { given = tt; prefix = refused.prefix; unencoded = refused.unencoded })

pub returns-in_default-clause-rewrites : goal.returns-in_default-clause-rewrites
returns-in_default-clause-rewrites g c = rw c.no_header.ensures.error (headless g.S.Rewritable.format c.args.bytes.now c.in_default.ensures.missing)

pub returns-in-Ok-clause-numbers : goal.returns-in-Ok-clause-numbers
returns-in-Ok-clause-numbers g c =
    let body = c.in-Some._sections.now in
    let found : c.args.bytes.now ≡ header ++ body = c.in-Some.ensures.found in
    let start = after_header_is c.args.bytes.now body c.skip.new.self found (c.skip.ensures ∙ ap (skipped 8) c.new-rewriter.ensures) in
    let counts : IfSome c.in-Ok.first (CountsFirst g.S.Rewritable.format body) = subst (λ (l : List ℕ). IfSome c.in-Ok.first (CountsFirst g.S.Rewritable.format l)) start.left c.in-Ok.ensures.counts in
    let tells : TellsFirst g.S.Rewritable.format body c.in-Ok.first = subst (λ (l : List ℕ). TellsFirst g.S.Rewritable.format l c.in-Ok.first) start.left c.in-Ok.ensures.checks.1.1 in
    numbers_first g.S.Rewritable.format c.args.bytes.now body (length c.args.bytes.now) c.in-Ok.first c.longer_part-longer.result found refl tells counts c.longer_part-longer.ensures.part

pub returns-in-Err-clause-counts : goal.returns-in-Err-clause-counts
returns-in-Err-clause-counts g c =
    let law = c.is_lawful.ensures in
    let body = c.in-Some._sections.now in
    let found : c.args.bytes.now ≡ header ++ body = c.in-Some.ensures.found in
    let start = after_header_is c.args.bytes.now body c.skip.new.self found (c.skip.ensures ∙ ap (skipped 8) c.new-rewriter.ensures) in
    let stop : StopsBehind g.S.Rewritable.format body c.in-Err.stop = subst (λ (l : List ℕ). StopsBehind g.S.Rewritable.format l c.in-Err.stop) start.left (stops_at law.lawful law.some c.skip.new.self.place.left c.in-Err.stop c.in-Err.ensures.checks.0) in
    let passed : CountsPassed g.S.Rewritable.format body c.in-Err.stop = subst (λ (l : List ℕ). CountsPassed g.S.Rewritable.format l c.in-Err.stop) start.left c.in-Err.ensures.passed in
    let error : read_error_of c.numbered.result ≡ error_of c.in-Err.stop.fault (length c.args.bytes.now - c.in-Err.stop.left) = c.numbered.ensures.error ∙ c.new.ensures.error in
    counts_sections g.S.Rewritable.format c.args.bytes.now body c.in-Err.stop c.numbered.result found error c.numbered.ensures.number stop.within passed

pub returns-in_default-clause-counts : goal.returns-in_default-clause-counts
returns-in_default-clause-counts g c = counts_none g.S.Rewritable.format c.args.bytes.now c.no_header.result c.no_header.ensures.section

pub returns-in-Err-clause-names : goal.returns-in-Err-clause-names
returns-in-Err-clause-names g c =
    let law = c.is_lawful.ensures in
    let body = c.in-Some._sections.now in
    let found : c.args.bytes.now ≡ header ++ body = c.in-Some.ensures.found in
    let start = after_header_is c.args.bytes.now body c.skip.new.self found (c.skip.ensures ∙ ap (skipped 8) c.new-rewriter.ensures) in
    let stop : StopsBehind g.S.Rewritable.format body c.in-Err.stop = subst (λ (l : List ℕ). StopsBehind g.S.Rewritable.format l c.in-Err.stop) start.left (stops_at law.lawful law.some c.skip.new.self.place.left c.in-Err.stop c.in-Err.ensures.checks.0) in
    let names : StopsInItem g.S.Rewritable.Breaks body c.in-Err.stop = subst (λ (l : List ℕ). StopsInItem g.S.Rewritable.Breaks l c.in-Err.stop) start.left c.in-Err.ensures.names in
    let error : read_error_of c.numbered.result ≡ error_of c.in-Err.stop.fault (length c.args.bytes.now - c.in-Err.stop.left) = c.numbered.ensures.error ∙ c.new.ensures.error in
    names_item g.S.Rewritable.Breaks c.args.bytes.now body c.in-Err.stop c.numbered.result found error (c.numbered.ensures.item ∙ c.new.ensures.item) stop.within names

pub returns-in_default-clause-names : goal.returns-in_default-clause-names
returns-in_default-clause-names g c = names_none g.S.Rewritable.Breaks c.args.bytes.now c.no_header.result c.no_header.ensures.item

pub returns-in-Ok-clause-same_reference : goal.returns-in-Ok-clause-same_reference
returns-in-Ok-clause-same_reference g c =
    c.finish-bytes.ensures.same_reference ∙ ap (λ (r : Rest). r.name) ((is_after (to_end g.S.Rewritable.format) c.skip.new.self c.rewrite_and_check_items.new.rewriter c.in-Ok.ensures.checks.0).given.rest ∙ ap (λ (r : Rewriting). r.rest) (c.skip.ensures ∙ ap (skipped 8) c.new-rewriter.ensures))

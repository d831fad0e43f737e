use Rattle.std.proofs.Common.{◌∙◌, Some, ap, subst}
use Rattle.wasm_code.specs.formats.Sections.{parts_of}
use Rattle.wasm_sections.specs.formats.EntryParts.{custom_parts}
use Rattle.wasm_custom_sections.specs.MinimalContents.{IsDecodedAs}
use Rattle.wasm_custom_sections.specs.declared.contents.Decoded.{Decoded}
use Rattle.wasm_custom_sections.proofs.LongerLaws.{names_minimal, names_longer, producers_minimal, producers_longer, none_so, some_so}
use Rattle.wasm_custom_sections.proofs.longer_contents.check_contents.Goals as goal

pub returns-in-Some-Names-clause-none : goal.returns-in-Some-Names-clause-none
returns-in-Some-Names-clause-none c =
    let s = parts_of c.args.section in
    let has = subst (IsDecodedAs s) (c.in-Some-Names.is ∙ ap (λ (d : Decoded). Some d) c.in-Some-Names.field-0-is) c.in_ok-contents_of.ensures.contents in
    none_so c.check_minimal.result (names_minimal s (custom_parts c.in-Ok.custom) c.in-Ok.ensures.decodes.given has) c.check_minimal.ensures.none

pub returns-in-Some-Names-clause-some : goal.returns-in-Some-Names-clause-some
returns-in-Some-Names-clause-some c =
    let s = parts_of c.args.section in
    let has = subst (IsDecodedAs s) (c.in-Some-Names.is ∙ ap (λ (d : Decoded). Some d) c.in-Some-Names.field-0-is) c.in_ok-contents_of.ensures.contents in
    some_so c.check_minimal.result (names_longer s (custom_parts c.in-Ok.custom) c.in-Ok.ensures.decodes.given has) c.check_minimal.ensures.some

pub returns-in-Some-Producers-clause-none : goal.returns-in-Some-Producers-clause-none
returns-in-Some-Producers-clause-none c =
    let s = parts_of c.args.section in
    let has = subst (IsDecodedAs s) (c.in-Some-Producers.is ∙ ap (λ (d : Decoded). Some d) c.in-Some-Producers.field-0-is) c.in_ok-contents_of.ensures.contents in
    none_so c.check_minimal-in-Some-Producers.result (producers_minimal s (custom_parts c.in-Ok.custom) c.in-Ok.ensures.decodes.given has) c.check_minimal-in-Some-Producers.ensures.none

pub returns-in-Some-Producers-clause-some : goal.returns-in-Some-Producers-clause-some
returns-in-Some-Producers-clause-some c =
    let s = parts_of c.args.section in
    let has = subst (IsDecodedAs s) (c.in-Some-Producers.is ∙ ap (λ (d : Decoded). Some d) c.in-Some-Producers.field-0-is) c.in_ok-contents_of.ensures.contents in
    some_so c.check_minimal-in-Some-Producers.result (producers_longer s (custom_parts c.in-Ok.custom) c.in-Ok.ensures.decodes.given has) c.check_minimal-in-Some-Producers.ensures.some

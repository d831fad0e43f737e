use Rattle.std.proofs.Common.{List, Option, subst}
use Rattle.std.specs.List.{AllByRecursion}
use Rattle.std.specs.Prelude.{IfNone}
use Rattle.wasm_codec.specs.declared.reader.refusal.Refusal.{Refusal}
use Rattle.wasm_codec.specs.formats.Grammar.{Joined}
use Rattle.wasm_code.specs.formats.Modules.{raw_section}
use Rattle.wasm_code.specs.formats.Sections.{SectionParts}
use Rattle.wasm_custom_sections.specs.LongerContents.{IsMinimalInside}
use Rattle.wasm_custom_sections.proofs.LongerWalk.{none_longer}
use Rattle.wasm_custom_sections.proofs.longer_contents.locate_longer.Goals as goal

pub returns-in-None : goal.returns-in-None
returns-in-None c =
    let sections = c.in-Some.sections.now in
    let all = subst (λ (found : Option Refusal). IfNone found ((all : List SectionParts) → Joined raw_section.Encodes sections all → AllByRecursion IsMinimalInside all)) c.in-None.is c.in_ok-refusal.ensures.none in
    record { first = λ minimal longer. none_longer c.args.module.now minimal sections c.in-Some.ensures.found all longer }

-- The sections that `example_strip` keeps.
use Rattle.std.specs.Prelude.{Bool, not, ◌==◌, List}
use Rattle.std.specs.List.{filter}
use Rattle.wasm_encoder.specs.Sections.{SectionParts}

-- The section isn't a custom section: its id isn't 0 (Custom Section).
abbrev pub is_kept : SectionParts → Bool
is_kept section = not (section.id == 0)

-- The sections that aren't custom sections, in their order.
abbrev pub kept : List SectionParts → List SectionParts
kept = filter is_kept

-- Element sections that are built (WebAssembly Core 3.0, Element Section).
use Rattle.std.specs.Prelude.{◌⊎◌, Result}
use Rattle.wasm_codec.specs.declared.encode.EncodeError.{EncodeError}
use Rattle.wasm_sections.specs.declared.elements.ElementMode.{ElementMode}
use Rattle.wasm_sections.specs.declared.elements.Elements.{Elements}
use Rattle.wasm_sections.specs.ClosedEntries.{AreClosed, IsCountedElement}
use Rattle.wasm_sections.specs.formats.Elements.{element, element_segment}
use Rattle.wasm_lists.specs.EncodedLists.{EncodedItems}
use Rattle.wasm_sections.specs.ListSections.{AddsIf, IsFull, IsMemoryOrTooLong}

-- A method that adds a segment, which has an encoding if the expressions among its elements close their blocks. It is
-- too long if a u32 doesn't count the elements, and each list in the segment.
abbrev pub AddsSegment : ElementMode → Elements → EncodedItems → EncodedItems → Result (Unit {0}) EncodeError → Type 0
AddsSegment mode elements old new = AddsIf element_segment (AreClosed elements) old (element mode elements) new (IsMemoryOrTooLong (IsFull old ⊎ (IsCountedElement (element mode elements) → ⊥)))

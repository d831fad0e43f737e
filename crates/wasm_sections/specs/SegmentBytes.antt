-- The bytes of segments, by the parts that are written one after another.
use Rattle.std.specs.Prelude.{◌≡◌, ℕ, ◌==◌, ◌||◌, ◌<◌, ◌^◌, Bool, false, List, ◌++◌, Option, Some, None, is_some, if◌then◌else◌}
use Rattle.wasm_codec.specs.Leb128.{unsigned_leb128}
use Rattle.wasm_codec.specs.formats.Combinators.{u32, items}
use Rattle.wasm_types.specs.formats.Types.{ref_type}
use Rattle.wasm_instructions.specs.formats.Instructions.{Instruction}
use Rattle.wasm_sections.specs.declared.data.ActiveData.{ActiveData}
use Rattle.wasm_sections.specs.declared.data.DataSegmentMode.{DataSegmentMode}
use Rattle.wasm_sections.specs.declared.data.DataSegmentMode.TheVariants as data_modes
use Rattle.wasm_sections.specs.declared.elements.ActiveElement.{ActiveElement}
use Rattle.wasm_sections.specs.declared.elements.ActiveFunctions.{ActiveFunctions}
use Rattle.wasm_sections.specs.declared.elements.Element.{Element}
use Rattle.wasm_sections.specs.declared.elements.ElementMode.{ElementMode}
use Rattle.wasm_sections.specs.declared.elements.ElementMode.TheVariants as modes
use Rattle.wasm_sections.specs.declared.elements.Elements.{Elements}
use Rattle.wasm_sections.specs.declared.elements.Elements.TheVariants as held
use Rattle.wasm_externals.specs.formats.PartCombinators.{part_if}
use Rattle.wasm_externals.specs.formats.Expressions.{expr}
use Rattle.wasm_sections.specs.formats.Elements.{element, kind_and_functions}
use Rattle.wasm_sections.specs.formats.EntryParts.{DataParts}
use Rattle.wasm_sections.specs.formats.Segments.{active_data}

-- The number of a form, the index of a memory or table if it is named, and the offset in it.
abbrev pub table_and_offset_bytes : ℕ → Option ℕ → List Instruction → List ℕ
table_and_offset_bytes form index offset = unsigned_leb128 form ++ ((part_if (is_some index) u32).bytes index ++ expr.bytes offset)

-- The parts of an active data segment that borrows its offset.
abbrev pub active_parts : ActiveData → DataParts
active_parts d = active_data d.memory_index (d.offset.now, d.bytes.now)

-- The bytes before those of a data segment.
abbrev pub data_mode_bytes : DataSegmentMode → List ℕ
data_mode_bytes data_modes.Passive = unsigned_leb128 1
data_mode_bytes (data_modes.Active memory offset) = if memory == 0 then table_and_offset_bytes 0 None offset else table_and_offset_bytes 2 (Some memory) offset

-- The memory index and the offset of the data segment are in range.
abbrev pub DataModeFits : DataSegmentMode → Type 0
DataModeFits data_modes.Passive = Unit
DataModeFits (data_modes.Active memory offset) = (memory < 2 ^ 32) × expr.InRange offset

-- The form names neither a table nor the kind or type of the elements.
abbrev pub is_short : ℕ → Bool
is_short form = form == 0 || form == 4

-- The active element segment that this borrows from.
abbrev pub active_element : ActiveElement → Element
active_element e = element (modes.Active e.table_index e.offset.now) e.elements.now

-- The active segment of function indices that this borrows from.
abbrev pub active_functions : ActiveFunctions → Element
active_functions e = element (modes.Active e.table_index e.offset.now) (held.Functions e.functions.now)

-- The bytes before the elements of a segment in this form.
abbrev pub element_mode_bytes : ℕ → ElementMode → List ℕ
element_mode_bytes form (modes.Active table offset) = if is_short form then table_and_offset_bytes form None offset else table_and_offset_bytes form (Some table) offset
element_mode_bytes form mode = unsigned_leb128 form

-- The table index and the offset of the element segment are in range.
abbrev pub ElementModeFits : ℕ → ElementMode → Type 0
ElementModeFits form (modes.Active table offset) = (is_short form ≡ false → table < 2 ^ 32) × expr.InRange offset
ElementModeFits form mode = Unit

-- The elements, after their kind or type unless the form is short.
abbrev pub elements_bytes : Bool → Elements → List ℕ
elements_bytes short (held.Functions fs) = if short then (items u32).bytes fs else kind_and_functions.bytes fs
elements_bytes short (held.Expressions ty es) = if short then (items expr).bytes es else ref_type.bytes ty ++ (items expr).bytes es

-- The elements, and their type unless the form is short, are in range.
abbrev pub ElementsFit : Bool → Elements → Type 0
ElementsFit short (held.Functions fs) = (items u32).InRange fs
ElementsFit short (held.Expressions ty es) = (short ≡ false → ref_type.InRange ty) × (items expr).InRange es

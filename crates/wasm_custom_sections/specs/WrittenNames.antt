-- Decoded subsections of a name section that are written (WebAssembly Core 3.0, Name Section).
use Rattle.std.specs.Prelude.{ℕ, ◌≡◌, ◌<◌, ◌∷◌, List, length, Result}
use Rattle.wasm_codec.specs.declared.encode.EncodeError.{EncodeError}
use Rattle.wasm_codec.specs.Appending.{Appends}
use Rattle.wasm_codec.specs.Encoding.{byte_list_bytes, CanEncodeList, IsCount, IsMinimal}
use Rattle.wasm_codec.specs.Lists.{items_bytes}
use Rattle.wasm_sections.specs.WrittenSections.{CountedList}
use Rattle.wasm_externals.specs.formats.Names.{name}
use Rattle.wasm_custom_sections.specs.declared.name_maps.Naming.{Naming}
use Rattle.wasm_custom_sections.specs.declared.name_maps.IndirectNaming.{IndirectNaming}
use Rattle.wasm_custom_sections.specs.declared.names.NameSubsection.{NameSubsection}
use Rattle.wasm_custom_sections.specs.declared.names.NameSubsection.TheVariants as read
use Rattle.wasm_custom_sections.specs.formats.NameParts.{indirect_parts, naming_parts, subsection_id, subsection_parts}
use Rattle.wasm_custom_sections.specs.formats.Names.{indirect_naming, name_subsection, naming}

-- The encoding of a decoded name.
abbrev pub naming_bytes : Naming → List ℕ
naming_bytes n = naming.bytes (naming_parts n)

-- The encoding of the decoded names inside an item.
abbrev pub indirect_bytes : IndirectNaming → List ℕ
indirect_bytes item = indirect_naming.bytes (indirect_parts item)

-- ---- which subsections can be written

-- A u32 counts the names, and the bytes of each.
abbrev pub AreCountedNames : List Naming → Type 0
AreCountedNames = CanEncodeList (λ n. IsCount (length n.name.now))

-- A u32 counts the names, the bytes of each, and those of the list.
abbrev pub CountedNames : List Naming → Type 0
CountedNames = CountedList naming_bytes (λ n. IsCount (length n.name.now))

-- A u32 counts the items, the names of each, and the bytes of the list.
abbrev pub CountedItems : List IndirectNaming → Type 0
CountedItems = CountedList indirect_bytes (λ item. AreCountedNames item.names)

-- A u32 counts each list in the subsection, each name, and the bytes of the contents.
abbrev pub CountedSubsection : NameSubsection → Type 0
CountedSubsection (read.Module text) = IsCount (length text.now) × IsCount (length (name.bytes text.now))
CountedSubsection (read.Functions names) = CountedNames names
CountedSubsection (read.Locals items) = CountedItems items
CountedSubsection (read.Labels items) = CountedItems items
CountedSubsection (read.Types names) = CountedNames names
CountedSubsection (read.Tables names) = CountedNames names
CountedSubsection (read.Memories names) = CountedNames names
CountedSubsection (read.Globals names) = CountedNames names
CountedSubsection (read.Elements names) = CountedNames names
CountedSubsection (read.Data names) = CountedNames names
CountedSubsection (read.Fields items) = CountedItems items
CountedSubsection (read.Tags names) = CountedNames names
CountedSubsection (read.Unknown id bytes) = IsCount (length bytes.now)

-- ---- what is written

-- The contents of the subsection, after its id and its size.
abbrev pub subsection_content : NameSubsection → List ℕ
subsection_content (read.Module text) = name.bytes text.now
subsection_content (read.Functions names) = items_bytes naming_bytes names
subsection_content (read.Locals items) = items_bytes indirect_bytes items
subsection_content (read.Labels items) = items_bytes indirect_bytes items
subsection_content (read.Types names) = items_bytes naming_bytes names
subsection_content (read.Tables names) = items_bytes naming_bytes names
subsection_content (read.Memories names) = items_bytes naming_bytes names
subsection_content (read.Globals names) = items_bytes naming_bytes names
subsection_content (read.Elements names) = items_bytes naming_bytes names
subsection_content (read.Data names) = items_bytes naming_bytes names
subsection_content (read.Fields items) = items_bytes indirect_bytes items
subsection_content (read.Tags names) = items_bytes naming_bytes names
subsection_content (read.Unknown id bytes) = bytes.now

-- The id, the size of the contents, and the contents.
abbrev pub subsection_bytes : NameSubsection → List ℕ
subsection_bytes s = subsection_id (subsection_parts s) ∷ byte_list_bytes (subsection_content s)

-- The id of a subsection with an unknown id has no meaning, as in each that was read.
abbrev pub HasUnknownId : NameSubsection → Type 0
HasUnknownId (read.Unknown id bytes) = 11 < id
HasUnknownId s = Unit {0}

-- The minimal encoding of the subsection was written.
abbrev pub IsWrittenSubsection : NameSubsection → Type 0
IsWrittenSubsection s = HasUnknownId s → (subsection_bytes s ≡ name_subsection.bytes (subsection_parts s)) × IsMinimal name_subsection.Encodes name_subsection.bytes (subsection_parts s)

-- A call that appends the subsection.
abbrev pub AppendsSubsection : NameSubsection → List ℕ → List ℕ → Result (Unit {0}) EncodeError → Type 0
AppendsSubsection s = Appends (subsection_bytes s) (CountedSubsection s) (IsWrittenSubsection s)

-- Names with the new indices of their items (WebAssembly Core 3.0, Name Section).
use Rattle.std.specs.Prelude.{ℕ, Any, List, map}
use Rattle.wasm_modules.specs.declared.indices.spaces.IndexSpace.{IndexSpace}
use Rattle.wasm_modules.specs.declared.indices.spaces.IndexSpace.TheVariants as spaces
use Rattle.wasm_modules.specs.IndexOverflows.{Exceeds}
use Rattle.wasm_modules.specs.MappedIndices.{NewIndices}
use Rattle.wasm_custom_sections.specs.declared.name_maps.Naming.{Naming}
use Rattle.wasm_custom_sections.specs.declared.name_maps.IndirectNaming.{IndirectNaming}
use Rattle.wasm_custom_sections.specs.declared.names.NameSubsection.{NameSubsection}
use Rattle.wasm_custom_sections.specs.declared.names.NameSubsection.TheVariants as read

-- The name with the new index of its item.
abbrev pub mapped_naming : (ℕ → ℕ) → Naming → Naming
mapped_naming new naming = record { index = new naming.index; name = naming.name }

-- The names inside an item with the item's new index. They name things that have no index in the module.
abbrev pub mapped_indirect_naming : (ℕ → ℕ) → IndirectNaming → IndirectNaming
mapped_indirect_naming new item = record { index = new item.index; names = item.names }

-- The subsection with new indices of the items that it names.
abbrev pub mapped_subsection : NewIndices → NameSubsection → NameSubsection
mapped_subsection new (read.Module name) = read.Module name
mapped_subsection new (read.Functions names) = read.Functions (map (mapped_naming (new spaces.Functions)) names)
mapped_subsection new (read.Locals items) = read.Locals (map (mapped_indirect_naming (new spaces.Functions)) items)
mapped_subsection new (read.Labels items) = read.Labels (map (mapped_indirect_naming (new spaces.Functions)) items)
mapped_subsection new (read.Types names) = read.Types (map (mapped_naming (new spaces.Types)) names)
mapped_subsection new (read.Tables names) = read.Tables (map (mapped_naming (new spaces.Tables)) names)
mapped_subsection new (read.Memories names) = read.Memories (map (mapped_naming (new spaces.Memories)) names)
mapped_subsection new (read.Globals names) = read.Globals (map (mapped_naming (new spaces.Globals)) names)
mapped_subsection new (read.Elements names) = read.Elements (map (mapped_naming (new spaces.Elements)) names)
mapped_subsection new (read.Data names) = read.Data (map (mapped_naming (new spaces.Data)) names)
mapped_subsection new (read.Fields items) = read.Fields (map (mapped_indirect_naming (new spaces.Types)) items)
mapped_subsection new (read.Tags names) = read.Tags (map (mapped_naming (new spaces.Tags)) names)
mapped_subsection new (read.Unknown id bytes) = read.Unknown id bytes

module _ (new : NewIndices) where
  -- The new index of one of these names' items is 2^32 or more.
  abbrev pub NamesExceed : IndexSpace → List Naming → Type 0
  NamesExceed space = Any (λ naming. Exceeds new space naming.index)

  -- The new index of one of these items is 2^32 or more.
  abbrev pub ItemsExceed : IndexSpace → List IndirectNaming → Type 0
  ItemsExceed space = Any (λ item. Exceeds new space item.index)

  -- The new index of an item that the subsection names is 2^32 or more.
  abbrev pub SubsectionExceeds : NameSubsection → Type 0
  SubsectionExceeds (read.Module name) = ⊥
  SubsectionExceeds (read.Functions names) = NamesExceed spaces.Functions names
  SubsectionExceeds (read.Locals items) = ItemsExceed spaces.Functions items
  SubsectionExceeds (read.Labels items) = ItemsExceed spaces.Functions items
  SubsectionExceeds (read.Types names) = NamesExceed spaces.Types names
  SubsectionExceeds (read.Tables names) = NamesExceed spaces.Tables names
  SubsectionExceeds (read.Memories names) = NamesExceed spaces.Memories names
  SubsectionExceeds (read.Globals names) = NamesExceed spaces.Globals names
  SubsectionExceeds (read.Elements names) = NamesExceed spaces.Elements names
  SubsectionExceeds (read.Data names) = NamesExceed spaces.Data names
  SubsectionExceeds (read.Fields items) = ItemsExceed spaces.Types items
  SubsectionExceeds (read.Tags names) = NamesExceed spaces.Tags names
  SubsectionExceeds (read.Unknown id bytes) = ⊥

-- The parts of names, without the borrows from the input.
use Rattle.std.specs.Prelude.{ℕ, List, map, Option, Some, None}
use Rattle.wasm_custom_sections.specs.declared.name_maps.Naming.{Naming}
use Rattle.wasm_custom_sections.specs.declared.name_maps.IndirectNaming.{IndirectNaming}
use Rattle.wasm_custom_sections.specs.declared.names.NameSubsection.{NameSubsection}
use Rattle.wasm_custom_sections.specs.declared.names.NameSubsection.TheVariants as read

-- The parts of a name for an index.
pub record NamingParts : Type 0 where
  pub index : ℕ
  pub name : List ℕ

-- The parts of a name that borrows from the input.
abbrev pub naming_parts : Naming → NamingParts
naming_parts n = record { index = n.index; name = n.name.now }

-- The parts of each name.
abbrev pub all_naming_parts : List Naming → List NamingParts
all_naming_parts = map naming_parts

-- The parts of names inside the item of an index.
pub record IndirectParts : Type 0 where
  pub index : ℕ
  pub names : List NamingParts

-- The parts of such names that borrow from the input.
abbrev pub indirect_parts : IndirectNaming → IndirectParts
indirect_parts n = record { index = n.index; names = all_naming_parts n.names }

-- The parts of each item's names.
abbrev pub all_indirect_parts : List IndirectNaming → List IndirectParts
all_indirect_parts = map indirect_parts

-- A subsection of a name section with its content.
pub data SubsectionParts : Type 0 where
  module_name : List ℕ → SubsectionParts
  functions : List NamingParts → SubsectionParts
  locals : List IndirectParts → SubsectionParts
  labels : List IndirectParts → SubsectionParts
  types : List NamingParts → SubsectionParts
  tables : List NamingParts → SubsectionParts
  memories : List NamingParts → SubsectionParts
  globals : List NamingParts → SubsectionParts
  elements : List NamingParts → SubsectionParts
  data_segments : List NamingParts → SubsectionParts
  fields : List IndirectParts → SubsectionParts
  tags : List NamingParts → SubsectionParts
  unknown : ℕ → List ℕ → SubsectionParts

-- The subsection with its content, without the borrows from the input.
abbrev pub subsection_parts : NameSubsection → SubsectionParts
subsection_parts (read.Module name) = module_name name.now
subsection_parts (read.Functions names) = functions (all_naming_parts names)
subsection_parts (read.Locals names) = locals (all_indirect_parts names)
subsection_parts (read.Labels names) = labels (all_indirect_parts names)
subsection_parts (read.Types names) = types (all_naming_parts names)
subsection_parts (read.Tables names) = tables (all_naming_parts names)
subsection_parts (read.Memories names) = memories (all_naming_parts names)
subsection_parts (read.Globals names) = globals (all_naming_parts names)
subsection_parts (read.Elements names) = elements (all_naming_parts names)
subsection_parts (read.Data names) = data_segments (all_naming_parts names)
subsection_parts (read.Fields names) = fields (all_indirect_parts names)
subsection_parts (read.Tags names) = tags (all_naming_parts names)
subsection_parts (read.Unknown id bytes) = unknown id bytes.now

-- The subsections with their content.
abbrev pub all_subsection_parts : List NameSubsection → List SubsectionParts
all_subsection_parts = map subsection_parts

-- ---- taken apart, for the minimal encoding

-- The id of a subsection with this content.
abbrev pub subsection_id : SubsectionParts → ℕ
subsection_id (module_name n) = 0
subsection_id (functions ns) = 1
subsection_id (locals ns) = 2
subsection_id (labels ns) = 3
subsection_id (types ns) = 4
subsection_id (tables ns) = 5
subsection_id (memories ns) = 6
subsection_id (globals ns) = 7
subsection_id (elements ns) = 8
subsection_id (data_segments ns) = 9
subsection_id (fields ns) = 10
subsection_id (tags ns) = 11
subsection_id (unknown id bytes) = id

abbrev pub module_part : SubsectionParts → Option (List ℕ)
module_part (module_name n) = Some n
module_part s = None

abbrev pub functions_part : SubsectionParts → Option (List NamingParts)
functions_part (functions ns) = Some ns
functions_part s = None

abbrev pub locals_part : SubsectionParts → Option (List IndirectParts)
locals_part (locals ns) = Some ns
locals_part s = None

abbrev pub labels_part : SubsectionParts → Option (List IndirectParts)
labels_part (labels ns) = Some ns
labels_part s = None

abbrev pub types_part : SubsectionParts → Option (List NamingParts)
types_part (types ns) = Some ns
types_part s = None

abbrev pub tables_part : SubsectionParts → Option (List NamingParts)
tables_part (tables ns) = Some ns
tables_part s = None

abbrev pub memories_part : SubsectionParts → Option (List NamingParts)
memories_part (memories ns) = Some ns
memories_part s = None

abbrev pub globals_part : SubsectionParts → Option (List NamingParts)
globals_part (globals ns) = Some ns
globals_part s = None

abbrev pub elements_part : SubsectionParts → Option (List NamingParts)
elements_part (elements ns) = Some ns
elements_part s = None

abbrev pub data_segments_part : SubsectionParts → Option (List NamingParts)
data_segments_part (data_segments ns) = Some ns
data_segments_part s = None

abbrev pub fields_part : SubsectionParts → Option (List IndirectParts)
fields_part (fields ns) = Some ns
fields_part s = None

abbrev pub tags_part : SubsectionParts → Option (List NamingParts)
tags_part (tags ns) = Some ns
tags_part s = None

-- The subsection of an unknown id with these bytes.
abbrev pub unknown_of : ℕ × List ℕ → SubsectionParts
unknown_of p = unknown p.0 p.1

abbrev pub unknown_part : SubsectionParts → Option (ℕ × List ℕ)
unknown_part (unknown id bytes) = Some (id, bytes)
unknown_part s = None

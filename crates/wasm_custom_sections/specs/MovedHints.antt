-- Modules whose branch hints are moved with their instructions, once code is minimally encoded (WebAssembly proposal,
-- Branch Hinting).
use Rattle.std.specs.Prelude.{◌≡◌, ◌⊎◌, ℕ, Bool, true, false, List, [], ◌∷◌, ◌++◌, codes, Option, Some, None, count_by}
use Rattle.std.specs.List.{AllByRecursion}
use Rattle.wasm_codec.specs.formats.Bodies.{byte_list}
use Rattle.wasm_codec.specs.formats.Combinators.{items}
use Rattle.wasm_externals.specs.declared.types.EntityType.{EntityType}
use Rattle.wasm_externals.specs.declared.types.EntityType.TheVariants as types
use Rattle.wasm_code.specs.formats.Modules.{raw_module, raw_section}
use Rattle.wasm_code.specs.formats.Sections.{SectionParts, code_section_id, first_body_of}
use Rattle.wasm_sections.specs.formats.Entries.{import_entry}
use Rattle.wasm_sections.specs.formats.EntryParts.{ImportParts}
use Rattle.wasm_sections.specs.formats.ModuleSections.{IsMinimalSection}
use Rattle.wasm_sections.specs.formats.Sections.{custom_body}
use Rattle.wasm_modules.specs.Offsets.{IsNameOf}
use Rattle.wasm_custom_sections.specs.MinimalContents.{HasContents}
use Rattle.wasm_custom_sections.specs.MovedFunctions.{MovesFunction}
use Rattle.wasm_custom_sections.specs.MovedOffsets.{Each}
use Rattle.wasm_custom_sections.specs.NamedSections.{named}
use Rattle.wasm_custom_sections.specs.declared.branch_hints.FunctionHints.{FunctionHints}
use Rattle.wasm_custom_sections.specs.declared.moved_hints.HintedCode.{HintedCode}
use Rattle.wasm_custom_sections.specs.formats.BranchHints.{function_hints}

-- The id of import sections (WebAssembly Core 3.0, Sections).
abbrev pub import_section_id : ℕ
import_section_id = 2

-- The import is a function.
abbrev pub is_function : EntityType → Bool
is_function (types.Function index) = true
is_function (types.Table t) = false
is_function (types.Memory m) = false
is_function (types.Global g) = false
is_function (types.Tag t) = false
is_function (types.FunctionExact index) = true

-- So many of the imports are functions.
abbrev pub function_imports : List ImportParts → ℕ
function_imports imports = count_by (λ i. is_function i.ty) imports

-- So many functions are imported by the import section with this body. Without one, none are.
abbrev pub ImportsFunctions : Option (List ℕ) → ℕ → Type 0
ImportsFunctions None count = count ≡ 0
ImportsFunctions (Some body) count = (imports : List ImportParts) × (items import_entry).Encodes body imports × (function_imports imports ≡ count)

-- The section is a custom section of branch hints.
abbrev pub IsHintSection : SectionParts → Type 0
IsHintSection section = IsNameOf section (codes "metadata.code.branch_hint")

-- One of the sections has branch hints.
abbrev pub HasHintSection : List SectionParts → Type 0
HasHintSection [] = ⊥
HasHintSection (section ∷ sections) = IsHintSection section ⊎ HasHintSection sections

-- The number of imported functions of a module with branch hints, and the body of its code section.
pub record IsCodeOf (module_bytes : List ℕ) (code : HintedCode) : Type 0 where
  pub sections : List SectionParts
  pub encodes : raw_module.Encodes module_bytes sections
  pub hinted : HasHintSection sections
  pub imported : ImportsFunctions (first_body_of import_section_id sections) code.imported_functions
  pub body : first_body_of code_section_id sections ≡ Some code.code.items

-- The section with this list as contents.
abbrev pub hint_section : List FunctionHints → SectionParts
hint_section functions = record { id = 0; body = custom_body.bytes (named (codes "metadata.code.branch_hint") ((items function_hints).bytes functions)) }

-- The section has branch hints. The other one has the hints for the same functions, moved with their instructions.
pub record MovesSection (imported : ℕ) (bodies : List (List ℕ)) (section moved : SectionParts) : Type 0 where
  pub has : HasContents (codes "metadata.code.branch_hint") (items function_hints) section
  pub functions : List FunctionHints
  pub moves : Each (MovesFunction imported bodies) has.value functions
  pub is : moved ≡ hint_section functions

-- The hints of a section of branch hints are moved. Any other section stays.
abbrev pub IsMovedSection : ℕ → List (List ℕ) → SectionParts → SectionParts → Type 0
IsMovedSection imported bodies section moved = MovesSection imported bodies section moved ⊎ ((moved ≡ section) × (IsHintSection section → ⊥))

-- The result is the module with its hints moved with their instructions, which are those of this code. It is a module
-- itself, whose section sizes are minimally encoded.
pub record MovesHints (code : HintedCode) (module_bytes result : List ℕ) : Type 0 where
  pub bodies : List (List ℕ)
  pub are_bodies : (items byte_list).Encodes code.code.items bodies
  pub sections : List SectionParts
  pub encodes : raw_module.Encodes module_bytes sections
  pub moved : List SectionParts
  pub moves : Each (IsMovedSection code.imported_functions bodies) sections moved
  pub is_module : raw_module.Encodes result moved
  pub written : result ≡ raw_module.bytes moved

-- The hints of the module move in at most one way.
pub record MovesInOneWay (code : HintedCode) (module_bytes : List ℕ) : Type 0 where
  pub one : (a b : List ℕ) → MovesHints code module_bytes a → MovesHints code module_bytes b → a ≡ b

-- ---- inside

-- The section is a custom section of branch hints with these contents.
abbrev pub HasHintBytes : SectionParts → List ℕ → Type 0
HasHintBytes section contents = (section.id ≡ 0) × custom_body.Encodes section.body (named (codes "metadata.code.branch_hint") contents)

-- The contents are hints. The other contents are the hints for the same functions, moved with their instructions.
pub record MovesContents (imported : ℕ) (bodies : List (List ℕ)) (contents moved : List ℕ) : Type 0 where
  pub functions : List FunctionHints
  pub encodes : (items function_hints).Encodes contents functions
  pub others : List FunctionHints
  pub moves : Each (MovesFunction imported bodies) functions others
  pub written : moved ≡ (items function_hints).bytes others

-- The section can't be moved: no section in range is this one with its hints moved.
abbrev pub CantMove : ℕ → List (List ℕ) → SectionParts → Type 0
CantMove imported bodies section = (moved : SectionParts) → raw_section.InRange moved → IsMovedSection imported bodies section moved → ⊥

-- The section was appended with its hints moved.
pub record AppendsMoved (imported : ℕ) (bodies : List (List ℕ)) (section : SectionParts) (old new : List ℕ) : Type 0 where
  pub moved : SectionParts
  pub moves : IsMovedSection imported bodies section moved
  pub in_range : raw_section.InRange section → raw_section.InRange moved
  pub written : new ≡ old ++ raw_section.bytes moved
  pub minimal : IsMinimalSection section → IsMinimalSection moved

-- The first sections of the module were appended, with their hints moved.
pub record MovesSoFar (imported : ℕ) (bodies : List (List ℕ)) (sections : List SectionParts) (done : List ℕ) : Type 0 where
  pub moved : List SectionParts
  pub moves : Each (IsMovedSection imported bodies) sections moved
  pub in_range : AllByRecursion raw_section.InRange sections → AllByRecursion raw_section.InRange moved
  pub minimal : AllByRecursion IsMinimalSection sections → AllByRecursion IsMinimalSection moved
  pub written : done ≡ raw_module.bytes moved

-- The rules for the sections of a module besides their encoding: their order and their counts (WebAssembly Core 3.0,
-- Modules).
use Rattle.std.specs.Prelude.{◌≡◌, ◌↔◌, ℕ, Bool, true, false, ◌||◌, ◌&&◌, not, ◌==◌, ◌<◌, ◌+◌, ◌⊎◌, List, [], ◌∷◌, ◌++◌, length, take, position, slice_get, is_some, Option, Some, None, IfSome, IfNone, IsSomeAnd, All, if◌then◌else◌}
use Rattle.std.specs.Option.{unwrap_or}
use Rattle.wasm_instructions.specs.declared.table.opcode.Opcode.{Opcode}
use Rattle.wasm_instructions.specs.formats.Instructions.{Instruction}
use Rattle.wasm_codec.specs.formats.Grammar.{Joined}
use Rattle.wasm_code.specs.declared.code.CodeBody.{CodeBody}
use Rattle.wasm_sections.specs.formats.ModuleSectionParts.{ModuleSectionParts, custom, types, imports, functions, tables, memories, globals, exports, start, elements, code, data_segments, data_count, tags}
use Rattle.wasm_sections.specs.formats.ModuleSections.{module_section, whole_module}
use Rattle.wasm_modules.specs.IndexSpaces.{index_spaces}
use Rattle.wasm_modules.specs.declared.indices.spaces.IndexSpace.{IndexSpace}
use Rattle.wasm_modules.specs.declared.indices.spaces.IndexSpace.TheVariants as spaces
use Rattle.wasm_modules.specs.declared.order.ModuleError.{ModuleError}
use Rattle.wasm_modules.specs.declared.order.check.OrderCheck.{OrderCheck}
use Rattle.wasm_modules.specs.declared.order.check.SectionFacts.{SectionFacts}
use Rattle.wasm_modules.specs.declared.order.check.SectionFacts.TheVariants as told
use Rattle.wasm_modules.specs.declared.order.data_uses.InstructionPlace.{InstructionPlace}
use Rattle.wasm_modules.specs.declared.order.ModuleError.TheVariants as errors

-- The position of a section in the standard's order, from 1 on; 0 for a custom section, which may come anywhere.
abbrev pub rank : ModuleSectionParts → ℕ
rank (custom c) = 0
rank (types ts) = 1
rank (imports is) = 2
rank (functions fs) = 3
rank (tables ts) = 4
rank (memories ms) = 5
rank (tags ts) = 6
rank (globals gs) = 7
rank (exports es) = 8
rank (start f) = 9
rank (elements es) = 10
rank (data_count n) = 11
rank (code bs) = 12
rank (data_segments ds) = 13

-- The rank of the last section that isn't a custom one.
abbrev pub later : ℕ → ℕ → ℕ
later last r = if r == 0 then last else r

-- After a section of this rank, the sections come in order, and at most once unless they are custom.
abbrev pub AreInOrder : ℕ → List ModuleSectionParts → Type 0
AreInOrder last [] = Unit
AreInOrder last (s ∷ sections) = ((rank s ≡ 0) ⊎ (last < rank s)) × AreInOrder (later last (rank s)) sections

-- ---- what the sections hold. If they are in order, the first of a kind is the only one.

-- The number of functions in the first function section.
abbrev pub function_count : List ModuleSectionParts → ℕ
function_count [] = 0
function_count (functions fs ∷ sections) = length fs
function_count (s ∷ sections) = function_count sections

-- The bodies of the first code section.
abbrev pub code_bodies : List ModuleSectionParts → List CodeBody
code_bodies [] = []
code_bodies (code bs ∷ sections) = bs
code_bodies (s ∷ sections) = code_bodies sections

-- The number of data segments in the first data section.
abbrev pub segment_count : List ModuleSectionParts → ℕ
segment_count [] = 0
segment_count (data_segments ds ∷ sections) = length ds
segment_count (s ∷ sections) = segment_count sections

-- The number in the first data count section.
abbrev pub first_data_count : List ModuleSectionParts → Option ℕ
first_data_count [] = None
first_data_count (data_count n ∷ sections) = Some n
first_data_count (s ∷ sections) = first_data_count sections

-- ---- data segments that code names

-- The index space is that of data segments.
abbrev pub is_data : Option IndexSpace → Bool
is_data (Some spaces.Data) = true
is_data space = false

-- Instructions of this opcode name a data segment.
abbrev pub op_names_data : Opcode → Bool
op_names_data op = is_data (index_spaces op).0 || is_data (index_spaces op).1

-- The instruction names a data segment.
abbrev pub names_data : Instruction → Bool
names_data i = op_names_data i.op

-- The index of the first instruction of a code body that names a data segment.
abbrev pub first_data_use : CodeBody → Option ℕ
first_data_use body = position names_data body.calls

-- No instruction of the code bodies names a data segment.
abbrev pub NameNoData : List CodeBody → Type 0
NameNoData bodies = All (λ body. first_data_use body ≡ None) bodies

-- The first of the code bodies that names a data segment is `body`, and `instruction` is the first in it that does.
abbrev pub IsFirstDataUse : List CodeBody → ℕ → ℕ → Type 0
IsFirstDataUse bodies body instruction = NameNoData (take body bodies) × IsSomeAnd (slice_get bodies body) (λ b. first_data_use b ≡ Some instruction)

-- The place is that of the first instruction that names a data segment, or there is none.
abbrev pub TellsDataUse : List CodeBody → Option InstructionPlace → Type 0
TellsDataUse bodies None = NameNoData bodies
TellsDataUse bodies (Some place) = IsFirstDataUse bodies place.body place.instruction

-- ---- modules

-- Sections come in order, at most once unless custom, counts agree, and code that names data segments has a data count.
-- module ::= .. n?:datacntsec .. ⇒ .. (if (n = |data*|)?) (if n? ≠ ε ∨ dataidx(func*) = ε)
pub record IsModule (sections : List ModuleSectionParts) : Type 0 where
  pub in_order : AreInOrder 0 sections
  pub bodies : function_count sections ≡ length (code_bodies sections)
  pub segments : IfSome (first_data_count sections) (λ n. n ≡ segment_count sections)
  pub data_uses : IfNone (first_data_count sections) (NameNoData (code_bodies sections))

-- The error names the first section or instruction at fault, or counts that differ.
abbrev pub IsWhyNot : List ModuleSectionParts → ModuleError → Type 0
IsWhyNot sections (errors.OutOfOrder index) = AreInOrder 0 (take index sections) × (AreInOrder 0 (take (index + 1) sections) → ⊥)
IsWhyNot sections (errors.FunctionCount fs bs) = (fs ≡ function_count sections) × (bs ≡ length (code_bodies sections)) × (fs ≡ bs → ⊥)
IsWhyNot sections (errors.DataCount told ds) = (first_data_count sections ≡ Some told) × (ds ≡ segment_count sections) × (told ≡ ds → ⊥)
IsWhyNot sections (errors.MissingDataCount body instruction) = (first_data_count sections ≡ None) × IsFirstDataUse (code_bodies sections) body instruction

-- The property holds of the sections that the bytes encode, one after another, if they encode any.
abbrev pub OfSections : List ℕ → (List ModuleSectionParts → Type 0) → Type 0
OfSections bytes P = (sections : List ModuleSectionParts) → Joined module_section.Encodes bytes sections → P sections

-- The property holds of the sections of the module that the bytes encode, if they encode one.
abbrev pub OfModule : List ℕ → (List ModuleSectionParts → Type 0) → Type 0
OfModule bytes P = (sections : List ModuleSectionParts) → whole_module.Encodes bytes sections → P sections

-- ---- the check of sections one after another

-- The facts of a section on which its order and the counts depend.
abbrev pub facts_of : ModuleSectionParts → SectionFacts
facts_of (custom c) = told.Other 0
facts_of (types ts) = told.Other 1
facts_of (imports is) = told.Other 2
facts_of (functions fs) = told.Functions (length fs)
facts_of (tables ts) = told.Other 4
facts_of (memories ms) = told.Other 5
facts_of (globals gs) = told.Other 6
facts_of (exports es) = told.Other 7
facts_of (start f) = told.Other 8
facts_of (elements es) = told.Other 9
facts_of (code bs) = told.Code (length bs)
facts_of (data_segments ds) = told.Data (length ds)
facts_of (data_count n) = told.DataCount n
facts_of (tags ts) = told.Other 13

-- The rank of a section without counts that has this id.
abbrev pub rank_of_id : ℕ → ℕ
rank_of_id id =
    if id == 1 then 1
    else if id == 2 then 2
    else if id == 4 then 4
    else if id == 5 then 5
    else if id == 13 then 6
    else if id == 6 then 7
    else if id == 7 then 8
    else if id == 8 then 9
    else if id == 9 then 10
    else 0

-- The rank of a section of which this is known.
abbrev pub rank_of : SectionFacts → ℕ
rank_of (told.Functions n) = 3
rank_of (told.Code n) = 12
rank_of (told.Data n) = 13
rank_of (told.DataCount n) = 11
rank_of (told.Other id) = rank_of_id id

-- The first option, or the second if the first is none.
abbrev pub first_known : {A : Type 0} → Option A → Option A → Option A
first_known None other = other
first_known (Some a) other = Some a

-- The counts with those of one more section.
abbrev pub added : SectionFacts → OrderCheck → OrderCheck
added (told.Functions n) check = record { last = check.last; functions = first_known check.functions (Some n); bodies = check.bodies; segments = check.segments; told = check.told }
added (told.Code n) check = record { last = check.last; functions = check.functions; bodies = first_known check.bodies (Some n); segments = check.segments; told = check.told }
added (told.Data n) check = record { last = check.last; functions = check.functions; bodies = check.bodies; segments = first_known check.segments (Some n); told = check.told }
added (told.DataCount n) check = record { last = check.last; functions = check.functions; bodies = check.bodies; segments = check.segments; told = first_known check.told (Some n) }
added (told.Other id) check = check

-- Code was noted, and no data count.
abbrev pub needs_data_use : OrderCheck → Bool
needs_data_use check = not (is_some check.told) && is_some check.bodies

-- The check has noted these sections, which are in order, and knows their counts.
pub record Notes (sections : List ModuleSectionParts) (check : OrderCheck) : Type 0 where
  pub in_order : (more : List ModuleSectionParts) → AreInOrder 0 (sections ++ more) ↔ AreInOrder check.last more
  pub functions : (more : List ModuleSectionParts) → function_count (sections ++ more) ≡ unwrap_or check.functions (function_count more)
  pub bodies : (more : List ModuleSectionParts) → length (code_bodies (sections ++ more)) ≡ unwrap_or check.bodies (length (code_bodies more))
  pub segments : (more : List ModuleSectionParts) → segment_count (sections ++ more) ≡ unwrap_or check.segments (segment_count more)
  pub told : (more : List ModuleSectionParts) → first_data_count (sections ++ more) ≡ first_known check.told (first_data_count more)

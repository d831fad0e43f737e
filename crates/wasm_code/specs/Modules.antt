-- Modules as sections with their bodies as bytes (WebAssembly Core 3.0, Modules).
use Rattle.std.specs.Prelude.{◌≡◌, ℕ, ◌+◌, ◌^◌, ◌<◌, ◌⊎◌, Bool, true, List, [], ◌++◌, length, map, Result, IfSome}
use Rattle.wasm_codec.specs.Outcomes.{EncodesSome, IsOrMemory}
use Rattle.wasm_codec.specs.formats.Combinators.{Format, minimal_if}
use Rattle.wasm_codec.specs.formats.Grammar.{Grammar, Joined}
use Rattle.wasm_codec.specs.declared.reader.refusal.Refusal.{Refusal}
use Rattle.wasm_lists.specs.ItemReading.{GivesToEnd, Reading, starting}
use Rattle.wasm_code.specs.formats.Sections.{header, parts_of, SectionParts, Content, TypedSection}
use Rattle.wasm_code.specs.formats.Modules.{module_of, raw_section, held_by, typed_section, raw_module, typed_module, HoldsContent}
use Rattle.std.specs.List.{AllByRecursion}
use Rattle.wasm_codec.specs.declared.reader.ReadError.{ReadError}

-- The id is a byte, and the size of the body fits in a u32.
pub record IsSection (s : SectionParts) : Type 0 where
  pub id : s.id < 2 ^ 8
  pub body : length s.body < 2 ^ 32

-- The prefix is empty, or it is the header and sections of this format.
abbrev pub IsModulePrefixOf : {V : Type 0} → Format V → List ℕ → Type 0
IsModulePrefixOf F prefix = (prefix ≡ []) ⊎ EncodesSome (module_of F).Encodes prefix

-- The bytes before this offset are the header and this number of sections.
pub record HasSectionsBefore {V : Type 0} (G : Grammar V) (bytes : List ℕ) (number at : ℕ) : Type 0 where
  pub body : List ℕ
  pub rest : List ℕ
  pub sections : List V
  pub parts : bytes ≡ header ++ (body ++ rest)
  pub at_is : length header + length body ≡ at
  pub encoded : Joined G body sections
  pub number_is : length sections ≡ number

-- If the refusal names a section, its number counts the sections before it.
abbrev pub CountsSections : {V : Type 0} → Format V → List ℕ → Refusal → Type 0
CountsSections F bytes refusal = IfSome refusal.section (λ place. HasSectionsBefore F.Encodes bytes place.number refusal.at)

-- The bytes don't begin with the header.
abbrev pub HasNoHeader : List ℕ → Type 0
HasNoHeader bytes = (rest : List ℕ) → bytes ≡ header ++ rest → ⊥

-- The reader gives the sections of a module, with their offsets; if `strict`, each size is minimally encoded.
pub record GivesSections (strict : Bool) (bytes : List ℕ) (reader : Reading) : Type 0 where
  -- The bytes after the header.
  pub sections : List ℕ
  pub parts : bytes ≡ header ++ sections
  pub start : reader ≡ starting (length header) sections strict
  pub gives : GivesToEnd parts_of raw_section sections reader

-- The prefix is empty, or it is the header and sections, each with its body as bytes.
abbrev pub IsModulePrefix : List ℕ → Type 0
IsModulePrefix = IsModulePrefixOf raw_section

-- The prefix is empty, or the header and sections; if `strict`, each size is minimally encoded.
abbrev pub IsModulePrefixMinimalIf : Bool → List ℕ → Type 0
IsModulePrefixMinimalIf strict = IsModulePrefixOf (minimal_if strict raw_section)

-- The prefix is empty, or it is the header and sections whose sizes are minimally encoded.
abbrev pub IsMinimalModulePrefix : List ℕ → Type 0
IsMinimalModulePrefix = IsModulePrefixMinimalIf true

-- The section with its body as bytes.
abbrev pub framed : TypedSection → SectionParts
framed s = record { id = s.id; body = (held_by s.id).bytes s.content }

-- A section of this id can hold this content.
abbrev pub CanHold : ℕ → Content → Type 0
CanHold id c = (held_by id).InRange c

-- The id is a byte, the content is in range, and the size of the body fits in a u32.
pub record IsTypedSection (s : TypedSection) : Type 0 where
  pub content : CanHold s.id s.content
  pub section : IsSection (framed s)

-- The prefix is empty, or it is the header and sections whose type and code bodies decode.
abbrev pub IsTypedModulePrefix : List ℕ → Type 0
IsTypedModulePrefix = IsModulePrefixOf typed_section

-- If the bytes are a module of raw sections, as `Module` writes it, these sections are read back.
abbrev pub ReadsBack : {X : Type 0} → (X → List SectionParts) → List ℕ → Result X ReadError → Type 0
ReadsBack view bytes result = (sections : List SectionParts) → AllByRecursion IsSection sections → bytes ≡ raw_module.bytes sections → IsOrMemory view sections result

-- A module of decoded sections, as `Module` writes it, is read back as raw sections.
pub record ReadsBackTyped {X : Type 0} (view : X → List SectionParts) (bytes : List ℕ) (result : Result X ReadError) : Type 0 where
  -- The bytes of raw sections in range encode them.
  pub encodes : (sections : List SectionParts) → AllByRecursion IsSection sections → bytes ≡ raw_module.bytes sections → raw_module.Encodes bytes sections
  -- The bytes of decoded sections in range encode them, each with its body as bytes.
  pub decoded_encodes : (sections : List TypedSection) → AllByRecursion IsTypedSection sections → bytes ≡ typed_module.bytes sections → raw_module.Encodes bytes (map framed sections)
  -- These are the sections that are read.
  pub decoded_read_back : (sections : List TypedSection) → AllByRecursion IsTypedSection sections → bytes ≡ typed_module.bytes sections → IsOrMemory view (map framed sections) result
  -- The body of each encodes what the section holds.
  pub entries_read_back : (section : TypedSection) → IsTypedSection section → HoldsContent (framed section) section.content

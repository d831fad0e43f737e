-- Modules that are built section by section (WebAssembly Core 3.0, Modules).
use Rattle.std.specs.Prelude.{◌≡◌, ◌++◌, ◌∷◌, ◌⊎◌, [], ℕ, List, Result, OnOk, OnErr, IfOk, IfErr}
use Rattle.std.specs.List.{All, AllByRecursion, Any}
use Rattle.wasm_codec.specs.declared.encode.EncodeError.{EncodeError}
use Rattle.wasm_codec.specs.declared.encode.EncodeError.TheVariants.{Memory}
use Rattle.wasm_codec.specs.Encoding.{byte_list_bytes, IsMinimalOrLonger, OnlyTooLong, Refuses}
use Rattle.wasm_code.specs.formats.Sections.{header, SectionParts, section_of}
use Rattle.wasm_code.specs.formats.Modules.{raw_module, raw_section}
use Rattle.wasm_sections.specs.declared.module_sections.ModuleSection.{ModuleSection}
use Rattle.wasm_sections.specs.formats.ModuleSectionParts.{ModuleSectionParts, all_module_section_parts}
use Rattle.wasm_sections.specs.formats.ModuleSections.{MinimalWholeModule, whole_module}
use Rattle.wasm_sections.specs.SectionBytes.{IsSectionAfter}
use Rattle.wasm_sections.specs.WrittenSections.{CountedContent, IsClosedContent}

module _ (id : ℕ) (encoding : List ℕ) (Can Written : Type 0) (Refused : EncodeError → Type 0) (old new : List ℕ) (result : Result (Unit {0}) EncodeError) where
  -- A call that appends a section of this id and encoding to bytes.
  pub record AppendsTo : Type 0 where
    -- It appends the id and the encoding.
    pub ok : OnOk result (new ≡ old ++ id ∷ encoding)
    -- The section has an encoding.
    pub can : OnOk result Can
    -- The section was written. For a builder: the body encodes the entries, and with the id it is the minimal encoding
    -- of a section that holds them.
    pub written : OnOk result Written
    -- It fails with one of these errors.
    pub refused : IfErr result Refused
    -- On error the bytes are unchanged.
    pub err : OnErr result (new ≡ old)

  -- A call that appends such a section to a module.
  pub record AppendsSection : Type 0 where
    -- It appends the section to the module's bytes.
    pub appended : AppendsTo
    -- If the encoding is a body after its size, a section with this body is appended to the module's sections.
    pub goes_on : (sections : List SectionParts) (body : List ℕ) → old ≡ raw_module.bytes sections → encoding ≡ byte_list_bytes body → OnOk result (new ≡ raw_module.bytes (sections ++ section_of (id, body) ∷ []))
    -- Appended to a new module, it is the only section.
    pub first : (body : List ℕ) → old ≡ header → encoding ≡ byte_list_bytes body → OnOk result (new ≡ raw_module.bytes (section_of (id, body) ∷ []))
    -- If the module is the minimal encoding of decoded sections, and the new section is that of `added`, the module is
    -- the minimal encoding of these sections and `added`.
    pub whole : (sections : List ModuleSectionParts) (added : ModuleSectionParts) → MinimalWholeModule old sections → IsSectionAfter id encoding added → OnOk result (MinimalWholeModule new (sections ++ added ∷ []))
    -- The bytes of sections encode them.
    pub encodes : (sections : List SectionParts) → AllByRecursion raw_section.InRange sections → raw_module.Encodes (raw_module.bytes sections) sections
    -- Every other encoding of them is longer.
    pub minimal : (sections : List SectionParts) (bytes : List ℕ) → raw_module.Encodes bytes sections → IsMinimalOrLonger bytes (raw_module.bytes sections)

-- A call that builds a module of decoded sections.
pub record BuildsModule (sections : List ModuleSection) (result : Result (List ℕ) EncodeError) : Type 0 where
  -- The module is the header, and then the bytes that are written of each section.
  pub bytes : IfOk result (λ m. m ≡ whole_module.bytes (all_module_section_parts sections))
  -- If the expressions in the sections close their blocks, it is the minimal encoding of a module with these sections.
  pub closed : IfOk result (λ m. All IsClosedContent sections → MinimalWholeModule m (all_module_section_parts sections))
  -- So it is if some bytes encode these sections, such as those that they were read from.
  pub encoded : IfOk result (λ m. (bytes : List ℕ) → whole_module.Encodes bytes (all_module_section_parts sections) → MinimalWholeModule m (all_module_section_parts sections))
  -- U32s count the lists, names and bytes of each section.
  pub can : OnOk result (All CountedContent sections)
  -- It fails with `Memory`, or with `TooLong` if a section can't be written.
  pub refused : IfErr result (λ e. (e ≡ Memory) ⊎ Any (λ section. Refuses CountedContent OnlyTooLong section e) sections)
  -- It fails with `Memory` alone if some bytes encode these sections.
  pub memory : (bytes : List ℕ) → whole_module.Encodes bytes (all_module_section_parts sections) → IfErr result (λ e. e ≡ Memory)

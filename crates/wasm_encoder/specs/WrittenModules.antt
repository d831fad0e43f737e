-- Modules that are written section by section (WebAssembly Core 3.0, Modules).
use Rattle.std.specs.Prelude.{◌≡◌, ◌++◌, ◌∷◌, [], ℕ, List, Option, Result, Ok, Err, OnOk, IfOk, IfErr}
use Rattle.std.specs.Io.KnownBytes.{Appends, Keeps}
use Rattle.wasm_codec.specs.Streams.{AppendsPrefix}
use Rattle.wasm_codec.specs.declared.encode.EncodeError.{EncodeError}
use Rattle.wasm_sections.specs.formats.ModuleSectionParts.{ModuleSectionParts}
use Rattle.wasm_sections.specs.formats.ModuleSections.{MinimalWholeModule}
use Rattle.wasm_sections.specs.SectionBytes.{IsSectionAfter}
use Rattle.wasm_encoder.specs.BuiltModules.{AppendsSection}
use Rattle.wasm_encoder.specs.declared.module_writer.WriteError.{WriteError}
use Rattle.wasm_encoder.specs.declared.module_writer.WriteError.TheVariants as errors

-- Since the writer's contents were `start`, the minimal encoding of a module with these decoded sections was appended.
pub record IsWrittenModule (start new : Option (List ℕ)) (sections : List ModuleSectionParts) : Type 0 where
  pub bytes : List ℕ
  pub appended : Appends start new bytes
  pub minimal : MinimalWholeModule bytes sections

-- If the section has no encoding or memory ran out, the property holds of the error.
abbrev pub IfEncode : {T : Type 0} → Result T WriteError → (EncodeError → Type 0) → Type 0
IfEncode (Ok x) P = Unit {0}
IfEncode (Err (errors.Encode e)) P = P e
IfEncode (Err (errors.Io e)) P = Unit {0}

-- If a write failed, the property holds.
abbrev pub OnIo : {T : Type 0} → Result T WriteError → Type 0 → Type 0
OnIo (Ok x) P = Unit {0}
OnIo (Err (errors.Encode e)) P = Unit {0}
OnIo (Err (errors.Io e)) P = P

module _ (id : ℕ) (encoding : List ℕ) (Can Written : Type 0) (Refused : EncodeError → Type 0) where
  -- A call that returns a section of this id and encoding.
  pub record EncodesInParts (result : Result (List ℕ) EncodeError) : Type 0 where
    -- It returns the id and the encoding.
    pub ok : IfOk result (λ bytes. bytes ≡ id ∷ encoding)
    -- The section has an encoding.
    pub can : OnOk result Can
    -- The section was written, as `AppendsTo` says.
    pub written : OnOk result Written
    -- It fails with one of these errors.
    pub refused : IfErr result Refused

  -- A call that writes such a section after the sections before.
  pub record WritesSection (old new : Option (List ℕ)) (result : Result (Unit {0}) WriteError) : Type 0 where
    -- It appends the id and the encoding to the writer's known contents, and nothing else.
    pub appended : OnOk result (Appends old new (id ∷ encoding))
    -- If `bytes` were written since the contents were `start`, it makes them what `Module::section` makes of them.
    pub goes_on : (start : Option (List ℕ)) (bytes : List ℕ) → Appends start old bytes → OnOk result (Appends start new (bytes ++ id ∷ encoding) × AppendsSection id encoding Can Written Refused bytes (bytes ++ id ∷ encoding) (Ok tt))
    -- If a module of decoded sections was written, and the new section is that of `added`, it is one of these sections
    -- and `added`.
    pub whole : (start : Option (List ℕ)) (sections : List ModuleSectionParts) (added : ModuleSectionParts) → IsWrittenModule start old sections → IsSectionAfter id encoding added → OnOk result (IsWrittenModule start new (sections ++ added ∷ []))
    -- It fails with `Encode` of one of these errors, and then nothing was written.
    pub refused : IfEncode result (λ e. Refused e × Keeps old new)
    -- After another error, a proper prefix of the section was appended.
    pub failed : OnIo result (AppendsPrefix old new (id ∷ encoding))

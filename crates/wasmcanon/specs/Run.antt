-- The output of a run of `wasmcanon`, and its result.
use Rattle.std.specs.Prelude.{◌≡◌, ◌⊎◌, ℕ, Bool, true, false, List, Option, Some, None, Result, Ok, Err, IfSome, OnOk}
use Rattle.std.specs.Io.KnownBytes.{Appends}
use Rattle.wasm_codec.specs.Outcomes.{EncodesSome, IsNormalForm, IsLongestPrefix}
use Rattle.wasm_codec.specs.Streams.{AppendsPrefix}
use Rattle.wasm_codec.specs.declared.reader.refusal.Refusal.{Refusal}
use Rattle.wasm_sections.specs.formats.ModuleSectionParts.{ModuleSectionParts}
use Rattle.wasm_sections.specs.formats.ModuleSections.{module_section, whole_module}
use Rattle.wasm_codec.specs.formats.Combinators.{minimal_only}
use Rattle.wasm_code.specs.Modules.{IsModulePrefixOf}
use Rattle.wasm_modules.specs.declared.order.ModuleError.{ModuleError}
use Rattle.sha2.specs.Sha256.{sha256}
use Rattle.wasm_modules.specs.Selections.{IsChosen}
use Rattle.wasm_custom_sections.specs.LongerContents.{HasLongerContents, IsFirstLonger}
use Rattle.wasm_custom_sections.specs.MinimalContents.{MinimisesContents}
use Rattle.wasm_custom_sections.specs.MovedHints.{IsCodeOf, MovesHints}
use Rattle.wasm_custom_sections.specs.declared.moved_hints.HintedCode.{HintedCode}
use Rattle.wasm_modules.specs.ModuleOrder.{OfModule, IsWhyNot}
use Rattle.wasm_modules.specs.ModuleOrder as order
use Rattle.wasmcanon.specs.declared.run.FormOptions.{FormOptions}
use Rattle.wasmcanon.specs.declared.run.Verdict.{Verdict}
use Rattle.wasmcanon.specs.declared.run.Verdict.TheVariants as verdicts
use Rattle.wasmcanon.specs.declared.run.Failure.{Failure}
use Rattle.wasmcanon.specs.declared.run.Failure.TheVariants as failures

-- The bytes encode a list of sections, each with its content.
abbrev pub IsModule : List ℕ → Type 0
IsModule bytes = EncodesSome whole_module.Encodes bytes

-- The bytes encode no list of sections.
pub record IsNoModule (bytes : List ℕ) : Type 0 where
  pub none : (sections : List ModuleSectionParts) → whole_module.Encodes bytes sections → ⊥

-- The result is the minimal encoding of the sections that the input encodes.
abbrev pub IsCanonicalForm : List ℕ → List ℕ → Type 0
IsCanonicalForm input encoding = IsNormalForm whole_module.Encodes whole_module.bytes input encoding

-- With `names` the contents of the custom sections `name` and `producers` are minimised, otherwise the module stays.
abbrev pub HasContents : Bool → List ℕ → List ℕ → Type 0
HasContents false canonical bytes = bytes ≡ canonical
HasContents true canonical bytes = MinimisesContents canonical bytes

-- The bytes are this module with its branch hints moved with their instructions, which are those of the input's code.
pub record MovesHintsOf (input encoding bytes : List ℕ) : Type 0 where
  pub code : HintedCode
  pub is_code : IsCodeOf input code
  pub moves : MovesHints code encoding bytes

-- If the flag is set, bytes have moved, and the branch hints of the canonical form are moved with their instructions.
-- Otherwise the form stays: no byte has moved, or the hints can't be moved.
abbrev pub HasHints : Bool → List ℕ → List ℕ → List ℕ → Type 0
HasHints false input encoding bytes = (bytes ≡ encoding) × ((encoding ≡ input) ⊎ ((moved : List ℕ) → MovesHintsOf input encoding moved → ⊥))
HasHints true input encoding bytes = (encoding ≡ input → ⊥) × MovesHintsOf input encoding bytes

-- The module has this code with branch hints, if it has one.
abbrev pub HasCode : List ℕ → Option HintedCode → Type 0
HasCode input None = (code : HintedCode) → IsCodeOf input code → ⊥
HasCode input (Some code) = IsCodeOf input code

-- The flag tells whether the form differs from the input.
abbrev pub TellsMoved : Bool → List ℕ → List ℕ → Type 0
TellsMoved false input form = form ≡ input
TellsMoved true input form = form ≡ input → ⊥

-- If the first flag is set, so is the second, there is code, and the bytes are the module with its hints moved with the
-- code's instructions. Otherwise they are the module, and if the second flag is set, the code's hints can't be moved.
abbrev pub MovesHintsIf : Bool → Bool → Option HintedCode → List ℕ → List ℕ → Type 0
MovesHintsIf false has_moved code encoding bytes = (bytes ≡ encoding) × (has_moved ≡ true → IfSome code (λ c. (moved : List ℕ) → MovesHints c encoding moved → ⊥))
MovesHintsIf true has_moved None encoding bytes = ⊥
MovesHintsIf true has_moved (Some code) encoding bytes = (has_moved ≡ true) × MovesHints code encoding bytes

-- The bytes are the canonical form of the input with these options. Its branch hints are moved if the flag is set.
pub record IsFormWith (moved : Bool) (options : FormOptions) (input bytes : List ℕ) : Type 0 where
  pub encoding : List ℕ
  pub canonical : IsCanonicalForm input encoding
  pub hinted : List ℕ
  pub hints : HasHints moved input encoding hinted
  pub part : List ℕ
  pub chosen : IsChosen options.sections hinted part
  pub contents : HasContents options.names part bytes
  -- The bytes are canonical themselves.
  pub stays : IsCanonicalForm bytes bytes

-- The bytes are the canonical form of the input with these options.
pub record IsForm (options : FormOptions) (input bytes : List ℕ) : Type 0 where
  pub moved : Bool
  pub form : IsFormWith moved options input bytes

-- With these options an input has at most one canonical form.
pub record HasOneForm (options : FormOptions) : Type 0 where
  pub one : (input a b : List ℕ) → IsForm options input a → IsForm options input b → a ≡ b

-- The writer's known contents grew by the canonical form of the input with these options.
pub record AppendsForm (options : FormOptions) (input : List ℕ) (old new : Option (List ℕ)) : Type 0 where
  pub bytes : List ℕ
  pub form : IsForm options input bytes
  pub appended : Appends old new bytes

-- The writer's known contents grew by a proper prefix of the canonical form of the input with these options.
pub record AppendsBeginning (options : FormOptions) (input : List ℕ) (old new : Option (List ℕ)) : Type 0 where
  pub bytes : List ℕ
  pub form : IsForm options input bytes
  pub appended : AppendsPrefix old new bytes

-- The property holds of the input's form.
pub record FormIs (options : FormOptions) (input : List ℕ) (P : List ℕ → Type 0) : Type 0 where
  pub bytes : List ℕ
  pub form : IsForm options input bytes
  pub holds : P bytes

-- The digest is SHA-256 of the canonical form of the input with these options.
pub record IsHash (options : FormOptions) (input digest : List ℕ) : Type 0 where
  pub bytes : List ℕ
  pub form : IsForm options input bytes
  pub is : digest ≡ sha256 bytes

-- The module has minimal contents: minimising them changes nothing.
abbrev pub HasMinimalContents : List ℕ → Type 0
HasMinimalContents input = MinimisesContents input input

-- The longest canonical prefix of the input, which isn't canonical, ends at this offset.
abbrev pub IsLonger : List ℕ → ℕ → Type 0
IsLonger input at = (IsCanonicalForm input input → ⊥) × IsLongestPrefix (IsModulePrefixOf (minimal_only module_section)) input at

-- The verdict is right: the input is canonical, or its longest canonical prefix ends at this offset. With `names`, its
-- contents are minimal too, or the input is canonical, and the first section whose contents aren't begins there.
abbrev pub IsVerdictOn : Bool → List ℕ → Verdict → Type 0
IsVerdictOn false input verdicts.Canonical = IsCanonicalForm input input
IsVerdictOn true input verdicts.Canonical = IsCanonicalForm input input × HasMinimalContents input
IsVerdictOn false input (verdicts.Longer refusal) = IsModule input × IsLonger input refusal.at
IsVerdictOn true input (verdicts.Longer refusal) = IsModule input × (IsLonger input refusal.at ⊎ (IsCanonicalForm input input × HasLongerContents input × IsFirstLonger input refusal.at))

-- ---- results

-- If the run refuses its input, the property holds of the offset that it reports.
abbrev pub IfRefused : {X : Type 0} → Result X Failure → (ℕ → Type 0) → Type 0
IfRefused (Ok x) P = Unit {0}
IfRefused (Err (failures.Refused refusal)) P = P refusal.at
IfRefused (Err (failures.Disordered error place)) P = Unit {0}
IfRefused (Err failures.ObjectFile) P = Unit {0}
IfRefused (Err failures.Memory) P = Unit {0}
IfRefused (Err (failures.Read error)) P = Unit {0}
IfRefused (Err (failures.Write error)) P = Unit {0}

-- If the run refuses its input, the property holds of the place that it reports.
abbrev pub IfPlaced : {X : Type 0} → Result X Failure → (Refusal → Type 0) → Type 0
IfPlaced (Ok x) P = Unit {0}
IfPlaced (Err (failures.Refused refusal)) P = P refusal
IfPlaced (Err (failures.Disordered error place)) P = Unit {0}
IfPlaced (Err failures.ObjectFile) P = Unit {0}
IfPlaced (Err failures.Memory) P = Unit {0}
IfPlaced (Err (failures.Read error)) P = Unit {0}
IfPlaced (Err (failures.Write error)) P = Unit {0}

-- If the run fails because the sections break a rule, the property holds of the error that it reports.
abbrev pub IfDisordered : {X : Type 0} → Result X Failure → (ModuleError → Type 0) → Type 0
IfDisordered (Ok x) P = Unit {0}
IfDisordered (Err (failures.Refused refusal)) P = Unit {0}
IfDisordered (Err (failures.Disordered error place)) P = P error
IfDisordered (Err failures.ObjectFile) P = Unit {0}
IfDisordered (Err failures.Memory) P = Unit {0}
IfDisordered (Err (failures.Read error)) P = Unit {0}
IfDisordered (Err (failures.Write error)) P = Unit {0}

-- The same result, without its value.
abbrev pub outcome_of : {X : Type 0} → Result X Failure → Result (Unit {0}) Failure
outcome_of (Ok x) = Ok tt
outcome_of (Err failure) = Err failure

-- What a run promises that accepts or refuses its input.
pub record Accepts (any_order : Bool) (input : List ℕ) (outcome : Result (Unit {0}) Failure) : Type 0 where
  -- Unless any order is allowed, the sections of what it accepts make a module.
  pub in_order : any_order ≡ false → OnOk outcome (OfModule input order.IsModule)
  -- Only if order is asked for, it refuses sections that make no module, and names a rule that they break.
  pub disordered : IfDisordered outcome (λ error. (any_order ≡ false) × OfModule input (λ sections. IsWhyNot sections error))
  -- It refuses only a malformed input.
  pub unencoded : IfRefused outcome (λ _. IsNoModule input)
  -- `at` is the length of the longest prefix that decodes.
  pub refused : IfRefused outcome (IsLongestPrefix (IsModulePrefixOf module_section) input)

-- The property holds of each result that is returned after all input was read.
abbrev pub OnceAllIsRead : {X : Type 0} → Result X Failure → Type 0 → Type 0
OnceAllIsRead (Ok x) P = P
OnceAllIsRead (Err (failures.Refused refusal)) P = P
OnceAllIsRead (Err (failures.Disordered error place)) P = P
OnceAllIsRead (Err failures.ObjectFile) P = P
OnceAllIsRead (Err failures.Memory) P = Unit {0}
OnceAllIsRead (Err (failures.Read error)) P = Unit {0}
OnceAllIsRead (Err (failures.Write error)) P = P

-- The property holds of each failure but that of a write.
abbrev pub BeforeAnyWrite : {X : Type 0} → Result X Failure → Type 0 → Type 0
BeforeAnyWrite (Ok x) P = Unit {0}
BeforeAnyWrite (Err (failures.Refused refusal)) P = P
BeforeAnyWrite (Err (failures.Disordered error place)) P = P
BeforeAnyWrite (Err failures.ObjectFile) P = P
BeforeAnyWrite (Err failures.Memory) P = P
BeforeAnyWrite (Err (failures.Read error)) P = P
BeforeAnyWrite (Err (failures.Write error)) P = Unit {0}

-- The property holds if a write failed.
abbrev pub IfWriteFailed : {X : Type 0} → Result X Failure → Type 0 → Type 0
IfWriteFailed (Ok x) P = Unit {0}
IfWriteFailed (Err (failures.Refused refusal)) P = Unit {0}
IfWriteFailed (Err (failures.Disordered error place)) P = Unit {0}
IfWriteFailed (Err failures.ObjectFile) P = Unit {0}
IfWriteFailed (Err failures.Memory) P = Unit {0}
IfWriteFailed (Err (failures.Read error)) P = Unit {0}
IfWriteFailed (Err (failures.Write error)) P = P

-- The call writes nothing, so it fails neither with `Write` nor with `ObjectFile`.
abbrev pub NeverWrites : {X : Type 0} → Result X Failure → Type 0
NeverWrites (Ok x) = Unit {0}
NeverWrites (Err (failures.Refused refusal)) = Unit {0}
NeverWrites (Err (failures.Disordered error place)) = Unit {0}
NeverWrites (Err failures.ObjectFile) = ⊥
NeverWrites (Err failures.Memory) = Unit {0}
NeverWrites (Err (failures.Read error)) = Unit {0}
NeverWrites (Err (failures.Write error)) = ⊥

-- The property holds if the module isn't written because it is an object file.
abbrev pub IfObjectFile : {X : Type 0} → Result X Failure → Type 0 → Type 0
IfObjectFile (Ok x) P = Unit {0}
IfObjectFile (Err (failures.Refused refusal)) P = Unit {0}
IfObjectFile (Err (failures.Disordered error place)) P = Unit {0}
IfObjectFile (Err failures.ObjectFile) P = P
IfObjectFile (Err failures.Memory) P = Unit {0}
IfObjectFile (Err (failures.Read error)) P = Unit {0}
IfObjectFile (Err (failures.Write error)) P = Unit {0}

-- The failure is `Memory` or `Read`.
abbrev pub IsReadFailure : Failure → Type 0
IsReadFailure (failures.Refused refusal) = ⊥
IsReadFailure (failures.Disordered error place) = ⊥
IsReadFailure failures.ObjectFile = ⊥
IsReadFailure failures.Memory = Unit {0}
IsReadFailure (failures.Read error) = Unit {0}
IsReadFailure (failures.Write error) = ⊥

-- The exit status of a run that failed so.
abbrev pub status_of : Failure → ℕ
status_of (failures.Refused refusal) = 1
status_of (failures.Disordered error place) = 1
status_of failures.ObjectFile = 2
status_of failures.Memory = 3
status_of (failures.Read error) = 4
status_of (failures.Write error) = 4

-- Facts about the results of runs, in another form.
use Rattle.std.proofs.Common.{refl, sym, subst, ◌≡◌, ◌∙◌, ℕ, Bool, true, false, List, Option, Some, None, Result, Ok, Err, inl, inr}
use Rattle.std.proofs.lemmas.Bool.{true≢false}
use Rattle.std.specs.Global.{Vec}
use Rattle.std.specs.Prelude.{IfSome}
use Rattle.wasm_codec.specs.Decoding.{Checks, NormalisesInPlace, RewritesInPlace}
use Rattle.wasm_codec.specs.Outcomes.{EncodesSome, as_read, place_alone}
use Rattle.wasm_codec.specs.declared.reader.DecodeError.{DecodeError}
use Rattle.wasm_codec.specs.declared.reader.DecodeError.TheVariants as decode_errors
use Rattle.wasm_codec.specs.declared.reader.refusal.Refusal.{Refusal}
use Rattle.wasm_modules.specs.RefusalNumbers.{CountsParts}
use Rattle.wasm_codec.specs.formats.Combinators.{minimal_only}
use Rattle.wasm_code.specs.Longer.{verdict_of}
use Rattle.wasm_code.specs.Modules.{IsModulePrefixOf}
use Rattle.wasm_sections.specs.formats.ModuleSections.{KeepsMinimal, MinimalWholeModule, module_section, whole_module}
use Rattle.wasm_sections.proofs.RawSections.{minimal_normal, normal_minimal}
use Rattle.wasm_custom_sections.specs.LongerContents.{HasLongerContents, IsFirstLonger}
use Rattle.wasm_custom_sections.specs.declared.moved_hints.HintedCode.{HintedCode}
use Rattle.wasm_custom_sections.proofs.MovedModuleLaws.{code_one, same_moves}
use Rattle.wasm_modules.specs.Selections.{IsChosen}
use Rattle.wasm_modules.specs.declared.order.ModuleError.{ModuleError}
use Rattle.wasm_modules.specs.ModuleOrder.{OfModule, IsWhyNot}
use Rattle.wasm_modules.specs.ModuleOrder as order
use Rattle.wasmcanon.specs.Run.{Accepts, HasCode, HasContents, HasHints, IsCanonicalForm, IsForm, IsFormWith, IsLonger, IsReadFailure, IsVerdictOn, MovesHintsIf, TellsMoved}
use Rattle.wasmcanon.specs.declared.order.MisplacedSection.{MisplacedSection}
use Rattle.wasmcanon.specs.declared.run.FormOptions.{FormOptions}
use Rattle.wasmcanon.specs.declared.run.Verdict.{Verdict}
use Rattle.wasmcanon.specs.declared.run.Failure.{Failure}
use Rattle.wasmcanon.specs.declared.run.Failure.TheVariants as failures
use Rattle.wasmcanon.specs.declared.run.Verdict.TheVariants as verdicts

-- ---- the verdict on a module

-- a module that was minimally encoded is its own canonical form, and it stays: its contents are checked in the new bytes
pub contents_checked : (names : Bool) (input : List ℕ) (bytes : Vec ℕ) (verdict : Verdict) → NormalisesInPlace whole_module (IsModulePrefixOf module_section) input (Ok bytes) → Checks whole_module MinimalWholeModule (IsModulePrefixOf (minimal_only module_section)) input (Ok tt) → (IsCanonicalForm bytes.items bytes.items → IsVerdictOn names bytes.items verdict) → IsVerdictOn names input verdict
contents_checked names input bytes verdict form check is_verdict =
    let value = check.given.0 in
    let minimal = (check.minimal value).0 check.given.1 in
    let stays = form.complete value minimal.0 ∙ sym minimal.1 in
    let canonical : IsCanonicalForm input input = record { value = value; encoded = minimal.0; is_minimal = minimal.1 } in
    subst (λ (b : List ℕ). IsVerdictOn names b verdict) stays (is_verdict (subst (λ (b : List ℕ). IsCanonicalForm b b) (sym stays) canonical))

-- a module in which a part is longer isn't canonical, whatever its contents are
pub longer_checked : (names : Bool) (input : List ℕ) (bytes : Vec ℕ) (refusal : Refusal) → NormalisesInPlace whole_module (IsModulePrefixOf module_section) input (Ok bytes) → Checks whole_module MinimalWholeModule (IsModulePrefixOf (minimal_only module_section)) input (verdict_of (Some refusal)) → IsVerdictOn names input (verdicts.Longer refusal)
longer_checked names input bytes refusal form check = by names where
  longer : IsLonger input refusal.at
  longer = ((λ same. check.unencoded same.value ((check.minimal same.value).1 (same.encoded, same.is_minimal))), check.prefix)

  by : (names : Bool) → IsVerdictOn names input (verdicts.Longer refusal)
  by false = ((form.given.value, form.given.encoded), longer)
  by true = ((form.given.value, form.given.encoded), inl longer)

-- a canonical module whose contents are longer
pub longer_contents : (names : Bool) (input : List ℕ) (refusal : Refusal) → names ≡ true → HasLongerContents input → (EncodesSome MinimalWholeModule input → IsFirstLonger input refusal.at) → IsCanonicalForm input input → IsVerdictOn names input (verdicts.Longer refusal)
longer_contents false input refusal is longer first canonical = absurd (true≢false (sym is))
longer_contents true input refusal is longer first canonical = ((canonical.value, canonical.encoded), inr (canonical, longer, first (normal_minimal input input canonical)))

-- ---- canonical forms

-- the hints of a form
has_hints : (moved flag : Bool) (code : Option HintedCode) (input encoding hinted : List ℕ) → HasCode input code → TellsMoved flag input encoding → MovesHintsIf moved flag code encoding hinted → HasHints moved input encoding hinted
has_hints false false code input encoding hinted is tells moves = (moves.0, inl tells)
has_hints false true None input encoding hinted is tells moves = (moves.0, inr (λ moved m. is m.code m.is_code))
has_hints false true (Some code) input encoding hinted is tells moves = (moves.0, inr (λ moved m. moves.1 refl moved (same_moves m.code code encoding moved (code_one input m.code code m.is_code is) m.moves)))
has_hints true flag None input encoding hinted is tells moves = absurd moves
has_hints true flag (Some code) input encoding hinted is tells moves = (subst (λ (t : Bool). TellsMoved t input encoding) moves.0 tells, record { code = code; is_code = is; moves = moves.1 })

-- the form of an input that is known
pub is_form : (known : Option (List ℕ)) (options : FormOptions) (moved flag : Bool) (code : Option HintedCode) (encoding hinted part bytes : List ℕ) → IfSome known (λ input. IsCanonicalForm input encoding) → IfSome known (λ input. HasCode input code) → IfSome known (λ input. TellsMoved flag input encoding) → MovesHintsIf moved flag code encoding hinted → KeepsMinimal encoding hinted
    → IsChosen options.sections hinted part → KeepsMinimal hinted part → HasContents options.names part bytes → KeepsMinimal part bytes → IfSome known (λ input. IsFormWith moved options input bytes)
is_form None options moved flag code encoding hinted part bytes canonical is tells moves still chosen keeps contents same = tt
is_form (Some input) options moved flag code encoding hinted part bytes canonical is tells moves still chosen keeps contents same = record {
  encoding = encoding;
  canonical = canonical;
  hinted = hinted;
  hints = has_hints moved flag code input encoding hinted is tells moves;
  part = part;
  chosen = chosen;
  contents = contents;
  stays = minimal_normal bytes (same (keeps (still (normal_minimal input encoding canonical))));
}

pub form_with : (known : Option (List ℕ)) (options : FormOptions) (moved : Bool) (bytes : List ℕ) → IfSome known (λ input. IsFormWith moved options input bytes) → IfSome known (λ input. IsForm options input bytes)
form_with None options moved bytes form = tt
form_with (Some input) options moved bytes form = record { moved = moved; form = form }

-- ---- the place of a refusal

-- what is known of the place without its reason
pub placed : (bytes : List ℕ) (refusal : Refusal) → CountsParts module_section bytes (place_alone refusal) → CountsParts module_section bytes refusal
placed bytes refusal c = record { sections = c.sections; items = c.items }

-- ---- inputs that are accepted or refused

-- a module that was refused while its sections were shown
pub shown_refused : (input old new : List ℕ) (result : Result ℕ DecodeError) (refusal : Refusal) → old ≡ input → result ≡ Err (decode_errors.Malformed refusal) → RewritesInPlace whole_module (IsModulePrefixOf module_section) old new (as_read result) → Accepts true input (Err (failures.Refused refusal))
shown_refused input old new result refusal same is rewrites =
    let failed : Result ℕ DecodeError = Err (decode_errors.Malformed refusal) in
    let refused = subst (λ (r : Result ℕ DecodeError). RewritesInPlace whole_module (IsModulePrefixOf module_section) old new (as_read r)) is rewrites in
    let here = subst (λ (bytes : List ℕ). RewritesInPlace whole_module (IsModulePrefixOf module_section) bytes new (as_read failed)) same refused in
    record { in_order = λ _. tt; disordered = tt; unencoded = record { none = here.unencoded }; refused = here.prefix }

-- a run that fails to read refuses nothing
pub failed_to_read : (any_order : Bool) (input : List ℕ) (failure : Failure) → IsReadFailure failure → Accepts any_order input (Err failure)
failed_to_read any_order input (failures.Refused refusal) is = absurd is
failed_to_read any_order input (failures.Disordered error place) is = absurd is
failed_to_read any_order input failures.ObjectFile is = absurd is
failed_to_read any_order input failures.Memory is = record { in_order = λ _. tt; disordered = tt; unencoded = tt; refused = tt }
failed_to_read any_order input (failures.Read error) is = record { in_order = λ _. tt; disordered = tt; unencoded = tt; refused = tt }
failed_to_read any_order input (failures.Write error) is = absurd is

-- The failure is `Write`.
abbrev pub IsWriteFailure : Failure → Type 0
IsWriteFailure (failures.Refused refusal) = ⊥
IsWriteFailure (failures.Disordered error place) = ⊥
IsWriteFailure failures.ObjectFile = ⊥
IsWriteFailure failures.Memory = ⊥
IsWriteFailure (failures.Read error) = ⊥
IsWriteFailure (failures.Write error) = Unit {0}

-- nor does one that fails to write
pub failed_to_write : (any_order : Bool) (input : List ℕ) (failure : Failure) → IsWriteFailure failure → Accepts any_order input (Err failure)
failed_to_write any_order input (failures.Refused refusal) is = absurd is
failed_to_write any_order input (failures.Disordered error place) is = absurd is
failed_to_write any_order input failures.ObjectFile is = absurd is
failed_to_write any_order input failures.Memory is = absurd is
failed_to_write any_order input (failures.Read error) is = absurd is
failed_to_write any_order input (failures.Write error) is = record { in_order = λ _. tt; disordered = tt; unencoded = tt; refused = tt }

-- nor does one that doesn't write an object file
pub not_written : (any_order : Bool) (input : List ℕ) → Accepts any_order input (Err failures.ObjectFile)
not_written any_order input = record { in_order = λ _. tt; disordered = tt; unencoded = tt; refused = tt }

-- the order of the sections was checked
pub found_in_order : (any_order : Bool) (input : List ℕ) → OfModule input order.IsModule → Accepts any_order input (Ok tt)
found_in_order any_order input ordered = record { in_order = λ _. ordered; disordered = tt; unencoded = tt; refused = tt }

pub found_out_of_order : (input : List ℕ) (error : ModuleError) (place : Option MisplacedSection) → OfModule input (λ sections. IsWhyNot sections error) → Accepts false input (Err (failures.Disordered error place))
found_out_of_order input error place why = record { in_order = λ _. tt; disordered = (refl, why); unencoded = tt; refused = tt }

-- any order is allowed
pub not_checked : (input : List ℕ) → Accepts true input (Ok tt)
not_checked input = record { in_order = λ same. absurd (true≢false same); disordered = tt; unencoded = tt; refused = tt }

-- what is refused in any order is refused in order too
pub refused_in_order : (any_order : Bool) (input : List ℕ) (failure : Failure) → Accepts true input (Err failure) → Accepts any_order input (Err failure)
refused_in_order any_order input (failures.Refused refusal) a = record { in_order = λ _. tt; disordered = tt; unencoded = a.unencoded; refused = a.refused }
refused_in_order any_order input (failures.Disordered error place) a = absurd (true≢false a.disordered.0)
refused_in_order any_order input failures.ObjectFile a = record { in_order = λ _. tt; disordered = tt; unencoded = tt; refused = tt }
refused_in_order any_order input failures.Memory a = record { in_order = λ _. tt; disordered = tt; unencoded = tt; refused = tt }
refused_in_order any_order input (failures.Read error) a = record { in_order = λ _. tt; disordered = tt; unencoded = tt; refused = tt }
refused_in_order any_order input (failures.Write error) a = record { in_order = λ _. tt; disordered = tt; unencoded = tt; refused = tt }

-- what is in order is accepted if it is accepted in any order
pub accepted_in_order : (any_order : Bool) (input : List ℕ) (outcome : Result (Unit {0}) Failure) → Accepts any_order input (Ok tt) → Accepts true input outcome → Accepts any_order input outcome
accepted_in_order any_order input (Ok tt) ordered a = ordered
accepted_in_order any_order input (Err failure) ordered a = refused_in_order any_order input failure a

-- what is accepted of the bytes of an input that is known
pub accepts_known : (known : Option (List ℕ)) (any_order : Bool) (bytes : List ℕ) (outcome : Result (Unit {0}) Failure) → IfSome known (λ input. bytes ≡ input) → Accepts any_order bytes outcome → IfSome known (λ input. Accepts any_order input outcome)
accepts_known None any_order bytes outcome same a = tt
accepts_known (Some input) any_order bytes outcome same a = subst (λ (b : List ℕ). Accepts any_order b outcome) same a

-- The results that a host gets for a module that was rewritten in place.
use Rattle.std.specs.Prelude.{◌≡◌, ◌≢◌, ◌≤◌, ◌⊎◌, ℕ, List, length, take, Option, Some, None, Result, Ok, Err}
use Rattle.wasm_codec.specs.declared.reader.refusal.Refusal.{Refusal}
use Rattle.wasm_codec.specs.Outcomes.{EncodesSome, IsLongestPrefix, IsNormalForm, place_alone}
use Rattle.wasm_codec.specs.formats.Combinators.{minimal_only}
use Rattle.wasm_code.specs.Longer.{RefusalLiesIn}
use Rattle.wasm_code.specs.Modules.{CountsSections, IsModulePrefixOf}
use Rattle.wasm_code.specs.declared.longer.CheckedInPlace.{CheckedInPlace}
use Rattle.wasm_sections.specs.formats.ModuleSections.{MinimalWholeModule, module_section, whole_module}
use Rattle.wasm_modules.specs.RefusalNumbers.{CountsParts}
use Rattle.flat_refusals.specs.FlatRefusals.{flat_accepted, flat_refusal}
use Rattle.flat_refusals.specs.declared.statuses.TheConstants.{NORMAL, REFUSED, NOT_NORMAL}
use Rattle.flat_refusals.specs.declared.refusal.FlatRefusal.{FlatRefusal}

-- The numbers are those of a refusal whose offset lies in a module of this length, and whose place counts what `Counts`
-- says.
pub record IsFlat (Counts : Refusal → Type 0) (len : ℕ) (told : FlatRefusal) : Type 0 where
  pub refusal : Refusal
  pub numbers : told ≡ flat_refusal refusal
  pub within : RefusalLiesIn len refusal
  pub counts : Counts (place_alone refusal)

-- The module `old` was replaced by its canonical form in place, which made it `new`.
pub record Canonicalises (old new : List ℕ) (count : ℕ) (told : FlatRefusal) (status : ℕ) : Type 0 where
  -- The bytes begin with the canonical form of a well-formed module, and the count is its length.
  pub within : status ≢ REFUSED → count ≤ length new
  pub written : status ≢ REFUSED → IsNormalForm whole_module.Encodes whole_module.bytes old (take count new)
  -- The module was its own canonical form, and the numbers are those of no refusal.
  pub canonical : status ≡ NORMAL → EncodesSome MinimalWholeModule old
  pub accepted : status ≡ NORMAL → told ≡ flat_accepted count
  -- It wasn't, and the refusal is at the end of the longest prefix that is minimally encoded.
  pub longer : status ≡ NOT_NORMAL → EncodesSome MinimalWholeModule old → ⊥
  pub first : status ≡ NOT_NORMAL → IsLongestPrefix (IsModulePrefixOf (minimal_only module_section)) old told.at
  pub part : status ≡ NOT_NORMAL → IsFlat (CountsSections (minimal_only module_section) old) (length old) told
  -- Only a malformed module is refused, and the count is the length of the longest prefix that decodes.
  pub refused : status ≡ REFUSED → IsLongestPrefix (IsModulePrefixOf module_section) old count
  pub at : status ≡ REFUSED → told.at ≡ count
  pub encodes_none : status ≡ REFUSED → EncodesSome whole_module.Encodes old → ⊥
  pub place : status ≡ REFUSED → IsFlat (CountsParts module_section old) (length old) told
  -- No other status is returned.
  pub statuses : (status ≡ NORMAL) ⊎ (status ≡ REFUSED) ⊎ (status ≡ NOT_NORMAL)

-- The results for a canonical module, or for one whose first part that isn't minimal is at this refusal.
abbrev pub IsCanonicalised : ℕ → Option Refusal → ℕ → FlatRefusal → ℕ → Type 0
IsCanonicalised len None count told status = (status ≡ NORMAL) × (count ≡ len) × (told ≡ flat_accepted len)
IsCanonicalised len (Some refusal) count told status = (status ≡ NOT_NORMAL) × (count ≡ len) × (told ≡ flat_refusal refusal)

abbrev pub IsTold : Result CheckedInPlace Refusal → ℕ → FlatRefusal → ℕ → Type 0
IsTold (Ok checked) count told status = IsCanonicalised checked.len checked.longer count told status
IsTold (Err refusal) count told status = (status ≡ REFUSED) × (count ≡ refusal.at) × (told ≡ flat_refusal refusal)

-- The promises of `nosgrivel_strip`.
use Rattle.std.specs.Prelude.{◌≡◌, ◌≢◌, ◌<◌, ◌⊎◌, ℕ, false, List, [], ◌∷◌, ◌++◌, length, get_or}
use Rattle.std.specs.Str.{IsUtf8}
use Rattle.wasm_codec.specs.Outcomes.{IsLongestPrefix, IsNormalForm, EncodesSome}
use Rattle.wasm_code.specs.Modules.{IsModulePrefixOf}
use Rattle.wasm_code.specs.formats.Sections.{SectionParts}
use Rattle.wasm_code.specs.formats.Modules.{raw_module}
use Rattle.wasm_sections.specs.formats.ModuleSections.{module_section, whole_module}
use Rattle.wasm_modules.specs.Selections.{IsSelected}
use Rattle.wasm_modules.specs.declared.selection.Pattern.{Pattern}
use Rattle.wasm_modules.specs.declared.selection.Selection.{Selection}
use Rattle.flat_refusals.specs.declared.statuses.TheConstants.{NORMAL, REFUSED, NO_MEMORY}
use Rattle.nosgrivel_c.specs.declared.delivery.TheConstants.{TOO_LONG, BAD_PATTERN}
use Rattle.nosgrivel_c.specs.Delivery.{BeginsWithNormal, IsOutputTooShort, IsDelivery, c_bad_pattern}

-- ---- patterns in a text

-- The byte NUL.
abbrev pub nul : ℕ
nul = 0

-- No byte of the text is NUL.
abbrev pub HasNoNul : List ℕ → Type 0
HasNoNul text = (i : ℕ) → i < length text → get_or text i 0 ≢ nul

-- The text lists these patterns: each ends at a NUL, or the last one at the end of the text.
pub data Lists : List ℕ → List Pattern → Type 0 where
  none : Lists [] []
  last : {pattern : Pattern} → HasNoNul pattern.text.now → pattern.text.now ≢ [] → Lists pattern.text.now (pattern ∷ [])
  next : {pattern : Pattern} {rest : List ℕ} {patterns : List Pattern} → HasNoNul pattern.text.now → Lists rest patterns → Lists (pattern.text.now ++ nul ∷ rest) (pattern ∷ patterns)

-- Both lists of patterns are UTF-8.
abbrev pub AreTexts : List ℕ → List ℕ → Type 0
AreTexts dropped kept = IsUtf8 dropped × IsUtf8 kept

-- ---- the call

-- The bytes are the canonical form of the input without the custom sections whose names match a pattern that `dropped`
-- lists, and none that `kept` lists.
pub record IsStripped (dropped kept input bytes : List ℕ) : Type 0 where
  pub canonical : List ℕ
  pub normal : IsNormalForm whole_module.Encodes whole_module.bytes input canonical
  pub selection : Selection
  pub names_alone : selection.offsets ≡ false
  pub drops : Lists dropped selection.dropped.now
  pub keeps : Lists kept selection.kept.now
  pub chosen : (sections : List SectionParts) → raw_module.Encodes canonical sections → IsSelected selection sections bytes
  -- The bytes are canonical themselves.
  pub stays : IsNormalForm whole_module.Encodes whole_module.bytes bytes bytes

-- A call that writes the canonical form of the input without these custom sections to the output `old`, which becomes
-- `new`.
pub record WritesStripped (input dropped kept old new : List ℕ) (before count result : ℕ) : Type 0 where
  -- The output begins with this form, and the count is its length.
  pub written : result ≡ NORMAL → BeginsWithNormal (IsStripped dropped kept input) old new count
  -- Only a malformed input is refused, and the count is the length of the longest prefix that decodes.
  pub refused : result ≡ REFUSED → IsLongestPrefix (IsModulePrefixOf module_section) input count
  pub encodes_none : result ≡ REFUSED → EncodesSome whole_module.Encodes input → ⊥
  -- The form is longer than the output, and the count is its length.
  pub too_long : result ≡ TOO_LONG → IsOutputTooShort (IsStripped dropped kept input) old count
  -- Unless the status is `NORMAL`, the output is unchanged.
  pub unchanged : result ≢ NORMAL → new ≡ old
  -- If memory ran out or a pattern is malformed, the count is unchanged.
  pub no_memory : result ≡ NO_MEMORY → count ≡ before
  pub bad_pattern : result ≡ BAD_PATTERN → count ≡ before
  -- The status is `BAD_PATTERN` if and only if a list of patterns isn't UTF-8.
  pub bad : result ≡ BAD_PATTERN → AreTexts dropped kept → ⊥
  pub always_bad : (AreTexts dropped kept → ⊥) → result ≡ BAD_PATTERN
  -- No other status is returned.
  pub status : IsDelivery result ⊎ (result ≡ c_bad_pattern)

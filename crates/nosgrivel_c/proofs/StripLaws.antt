-- The promises of `nosgrivel_strip` follow from the stripped form, and from the status.
use Rattle.std.proofs.Common.{◌≡◌, ◌≢◌, ◌∙◌, ℕ, false, List, [], ◌∷◌, ◌++◌, Result, Ok, Err, inl, inr, refl, sym, ap, subst, append_assoc, arith}
use Rattle.std.proofs.lemmas.List.{append-nil}
use Rattle.std.specs.Global.{Vec}
use Rattle.std.specs.Prelude.{IfOk}
use Rattle.wasm_codec.specs.declared.reader.ReadError.{ReadError}
use Rattle.wasm_codec.specs.declared.reader.ReadError.TheVariants as errors
use Rattle.wasm_codec.specs.Outcomes.{IfRefused, IsLongestPrefix, IsNormalForm}
use Rattle.wasm_code.specs.Modules.{IsModulePrefixOf}
use Rattle.wasm_code.specs.formats.Sections.{SectionParts}
use Rattle.wasm_code.specs.formats.Modules.{raw_module}
use Rattle.wasm_sections.specs.formats.ModuleSectionParts.{ModuleSectionParts}
use Rattle.wasm_sections.specs.formats.ModuleSections.{KeepsMinimal, module_section, whole_module}
use Rattle.wasm_sections.proofs.RawSections.{minimal_normal, normal_minimal}
use Rattle.wasm_modules.specs.Selections.{IsSelected}
use Rattle.wasm_modules.specs.declared.selection.Pattern.{Pattern}
use Rattle.wasm_modules.specs.declared.selection.Selection.{Selection}
use Rattle.nosgrivel_c.specs.Delivery.{IsDelivered, c_bad_pattern}
use Rattle.nosgrivel_c.specs.Stripping.{AreTexts, HasNoNul, IsStripped, Lists, WritesStripped, none, last, next, nul}
use Rattle.nosgrivel_c.proofs.DeliveryLaws.{at_count}

-- ---- patterns that a text lists

-- whatever patterns the rest lists, all of the text lists those that were found and them
abbrev pub ListsOn : List ℕ → List ℕ → List Pattern → Type 0
ListsOn all rest found = (more : List Pattern) → Lists rest more → Lists all (found ++ more)

pub next_listed : (all text part rest : List ℕ) (found later : List Pattern) (pattern : Pattern) → ListsOn all text found → text ≡ part ++ nul ∷ rest → HasNoNul part → pattern.text.now ≡ part → later ≡ found ++ pattern ∷ [] → ListsOn all rest later
next_listed all text part rest found later pattern so_far is free spelt push more listed =
    let one : Lists (part ++ nul ∷ rest) (pattern ∷ more) = subst (λ (p : List ℕ). Lists (p ++ nul ∷ rest) (pattern ∷ more)) spelt (next (subst HasNoNul (sym spelt) free) listed) in
    subst (Lists all) (sym (append_assoc found (pattern ∷ []) more) ∙ ap (λ (t : List Pattern). t ++ more) (sym push)) (so_far (pattern ∷ more) (subst (λ (t : List ℕ). Lists t (pattern ∷ more)) (sym is) one))

pub last_listed : (all text : List ℕ) (found later : List Pattern) (pattern : Pattern) → ListsOn all text found → HasNoNul text → text ≢ [] → pattern.text.now ≡ text → later ≡ found ++ pattern ∷ [] → Lists all later
last_listed all text found later pattern so_far free some spelt push =
    let one : Lists text (pattern ∷ []) = subst (λ (t : List ℕ). Lists t (pattern ∷ [])) spelt (last (subst HasNoNul (sym spelt) free) (subst (λ (t : List ℕ). t ≢ []) (sym spelt) some)) in
    subst (Lists all) (sym push) (so_far (pattern ∷ []) one)

pub all_listed : (all text : List ℕ) (found : List Pattern) → ListsOn all text found → text ≡ [] → Lists all found
all_listed all text found so_far is = subst (Lists all) (append-nil found) (so_far [] (subst (λ (t : List ℕ). Lists t []) (sym is) none))

-- ---- the call

pub stripped : (dropped kept input canonical bytes : List ℕ) (selection : Selection) → IsNormalForm whole_module.Encodes whole_module.bytes input canonical → selection.offsets ≡ false → Lists dropped selection.dropped.now → Lists kept selection.kept.now
    → ((sections : List SectionParts) → raw_module.Encodes canonical sections → IsSelected selection sections bytes) → KeepsMinimal canonical bytes → IsStripped dropped kept input bytes
stripped dropped kept input canonical bytes selection normal names_alone drops keeps chosen minimal = record {
  canonical = canonical;
  normal = normal;
  selection = selection;
  names_alone = names_alone;
  drops = drops;
  keeps = keeps;
  chosen = chosen;
  stays = minimal_normal bytes (minimal (normal_minimal input canonical normal));
}

pub writes_stripped : (result : Result (Vec ℕ) ReadError) (input dropped kept old new : List ℕ) (before count status : ℕ) → AreTexts dropped kept → IfOk result (λ left. IsStripped dropped kept input left.items) → IfRefused result (IsLongestPrefix (IsModulePrefixOf module_section) input) → IfRefused result (λ _. (sections : List ModuleSectionParts) → whole_module.Encodes input sections → ⊥)
    → IsDelivered (λ encoding. encoding.items) result old new before count status → WritesStripped input dropped kept old new before count status
writes_stripped (Ok left) input dropped kept old new before count status texts given prefix unencoded (len, inl (is, fits, output)) = record {
  written = λ s. record { encoding = left.items; normal = given; len = len; fits = fits; output = output };
  refused = λ s. absurd (omega (arith, is, s));
  encodes_none = λ s some. omega (arith, is, s);
  too_long = λ s. absurd (omega (arith, is, s));
  unchanged = λ s. absurd (s is);
  no_memory = λ s. absurd (omega (arith, is, s));
  bad_pattern = λ s. absurd (omega (arith, is, s));
  bad = λ s. absurd (omega (arith, is, s));
  always_bad = λ some. absurd (some texts);
  status = inl (inl is);
}
writes_stripped (Ok left) input dropped kept old new before count status texts given prefix unencoded (len, inr (is, long, same)) = record {
  written = λ s. absurd (omega (arith, is, s));
  refused = λ s. absurd (omega (arith, is, s));
  encodes_none = λ s some. omega (arith, is, s);
  too_long = λ s. record { encoding = left.items; normal = given; len = len; long = long };
  unchanged = λ s. same;
  no_memory = λ s. absurd (omega (arith, is, s));
  bad_pattern = λ s. absurd (omega (arith, is, s));
  bad = λ s. absurd (omega (arith, is, s));
  always_bad = λ some. absurd (some texts);
  status = inl (inr (inr (inr is)));
}
writes_stripped (Err (errors.Refused at)) input dropped kept old new before count status texts given prefix unencoded ((is, told), same) = record {
  written = λ s. absurd (omega (arith, is, s));
  refused = λ s. at_count at count told prefix;
  encodes_none = λ s some. unencoded some.0 some.1;
  too_long = λ s. absurd (omega (arith, is, s));
  unchanged = λ s. same;
  no_memory = λ s. absurd (omega (arith, is, s));
  bad_pattern = λ s. absurd (omega (arith, is, s));
  bad = λ s. absurd (omega (arith, is, s));
  always_bad = λ some. absurd (some texts);
  status = inl (inr (inl is));
}
writes_stripped (Err errors.Memory) input dropped kept old new before count status texts given prefix unencoded ((is, told), same) = record {
  written = λ s. absurd (omega (arith, is, s));
  refused = λ s. absurd (omega (arith, is, s));
  encodes_none = λ s some. omega (arith, is, s);
  too_long = λ s. absurd (omega (arith, is, s));
  unchanged = λ s. same;
  no_memory = λ s. told;
  bad_pattern = λ s. absurd (omega (arith, is, s));
  bad = λ s. absurd (omega (arith, is, s));
  always_bad = λ some. absurd (some texts);
  status = inl (inr (inr (inl is)));
}

-- a malformed pattern stopped the call before it wrote anything
pub stops : (input dropped kept old : List ℕ) (count status : ℕ) → (AreTexts dropped kept → ⊥) → status ≡ c_bad_pattern → WritesStripped input dropped kept old old count count status
stops input dropped kept old count status some is = record {
  written = λ s. absurd (omega (arith, is, s));
  refused = λ s. absurd (omega (arith, is, s));
  encodes_none = λ s any. omega (arith, is, s);
  too_long = λ s. absurd (omega (arith, is, s));
  unchanged = λ s. refl;
  no_memory = λ s. refl;
  bad_pattern = λ s. refl;
  bad = λ s. some;
  always_bad = λ s. is;
  status = inr is;
}

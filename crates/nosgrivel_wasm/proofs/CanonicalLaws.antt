-- The results that a host gets follow from those that the library gives for the module.
use Rattle.std.proofs.Common.{◌≤◌, ℕ, List, length, take, Option, Some, None, Result, Ok, Err, IfOk, IfErr, IfSome, inl, inr, sym, ap, ◌∙◌, subst, arith}
use Rattle.wasm_codec.specs.declared.reader.refusal.Refusal.{Refusal}
use Rattle.wasm_codec.specs.Decoding.{Checks, NormalisesTo}
use Rattle.wasm_codec.specs.Outcomes.{as_decoded, IfMalformed, IsLongestPrefix, IsNormalForm, LiesIn}
use Rattle.wasm_codec.specs.formats.Combinators.{minimal_only}
use Rattle.wasm_code.specs.Longer.{RefusalLiesIn, len_of, verdict_of}
use Rattle.wasm_code.specs.Modules.{CountsSections, IsModulePrefixOf}
use Rattle.wasm_code.specs.declared.longer.CheckedInPlace.{CheckedInPlace}
use Rattle.wasm_sections.specs.formats.ModuleSections.{MinimalWholeModule, module_section, whole_module}
use Rattle.wasm_modules.specs.RefusalNumbers.{CountsParts}
use Rattle.flat_refusals.specs.FlatRefusals.{flat_accepted}
use Rattle.flat_refusals.specs.declared.refusal.FlatRefusal.{FlatRefusal}
use Rattle.nosgrivel_wasm.specs.Canonicalising.{Canonicalises, IsTold, IsCanonicalised}

module _ (old new : List ℕ) where
  checked_so : (len : ℕ) (longer : Option Refusal) (count : ℕ) (told : FlatRefusal) (status : ℕ) → len ≤ length new → IsNormalForm whole_module.Encodes whole_module.bytes old (take len new)
      → Checks whole_module MinimalWholeModule (IsModulePrefixOf (minimal_only module_section)) old (verdict_of longer) → IfSome longer (RefusalLiesIn (length old)) → IfSome longer (CountsSections (minimal_only module_section) old)
      → IsCanonicalised len longer count told status → Canonicalises old new count told status
  checked_so len None count told status fits form checks within counts (is, counted, flat) = record {
    within = λ s. subst (λ (k : ℕ). k ≤ length new) (sym counted) fits;
    written = λ s. subst (λ (k : ℕ). IsNormalForm whole_module.Encodes whole_module.bytes old (take k new)) (sym counted) form;
    canonical = λ s. checks.given;
    accepted = λ s. flat ∙ ap flat_accepted (sym counted);
    longer = λ s. absurd (omega (arith, is, s));
    first = λ s. absurd (omega (arith, is, s));
    part = λ s. absurd (omega (arith, is, s));
    refused = λ s. absurd (omega (arith, is, s));
    at = λ s. absurd (omega (arith, is, s));
    encodes_none = λ s some. omega (arith, is, s);
    place = λ s. absurd (omega (arith, is, s));
    statuses = inl is;
  }
  checked_so len (Some refusal) count told status fits form checks within counts (is, counted, flat) = record {
    within = λ s. subst (λ (k : ℕ). k ≤ length new) (sym counted) fits;
    written = λ s. subst (λ (k : ℕ). IsNormalForm whole_module.Encodes whole_module.bytes old (take k new)) (sym counted) form;
    canonical = λ s. absurd (omega (arith, is, s));
    accepted = λ s. absurd (omega (arith, is, s));
    longer = λ s some. checks.unencoded some.0 some.1;
    first = λ s. subst (λ (k : ℕ). IsLongestPrefix (IsModulePrefixOf (minimal_only module_section)) old k) (sym (ap (λ (t : FlatRefusal). t.at) flat)) checks.prefix;
    part = λ s. record { refusal = refusal; numbers = flat; within = within; counts = counts };
    refused = λ s. absurd (omega (arith, is, s));
    at = λ s. absurd (omega (arith, is, s));
    encodes_none = λ s some. omega (arith, is, s);
    place = λ s. absurd (omega (arith, is, s));
    statuses = inr (inr is);
  }

  pub canonicalises : (result : Result CheckedInPlace Refusal) (count : ℕ) (told : FlatRefusal) (status : ℕ) → IfOk result (λ checked. checked.len ≤ length new) → NormalisesTo whole_module (IsModulePrefixOf module_section) old (λ len. take len new) (len_of (as_decoded result))
      → IfOk result (λ checked. Checks whole_module MinimalWholeModule (IsModulePrefixOf (minimal_only module_section)) old (verdict_of checked.longer)) → IfErr (as_decoded result) (LiesIn (length old)) → IfOk result (λ checked. IfSome checked.longer (RefusalLiesIn (length old)))
      → IfMalformed (as_decoded result) (CountsParts module_section old) → IfOk result (λ checked. IfSome checked.longer (CountsSections (minimal_only module_section) old)) → IsTold result count told status
      → Canonicalises old new count told status
  canonicalises (Ok checked) count told status fits normalises checks lies within counts numbers is = checked_so checked.len checked.longer count told status fits normalises.given checks within numbers is
  canonicalises (Err refusal) count told status fits normalises checks lies within counts numbers (is, counted, flat) = record {
    within = λ s. absurd (s is);
    written = λ s. absurd (s is);
    canonical = λ s. absurd (omega (arith, is, s));
    accepted = λ s. absurd (omega (arith, is, s));
    longer = λ s. absurd (omega (arith, is, s));
    first = λ s. absurd (omega (arith, is, s));
    part = λ s. absurd (omega (arith, is, s));
    refused = λ s. subst (λ (k : ℕ). IsLongestPrefix (IsModulePrefixOf module_section) old k) (sym counted) normalises.prefix;
    at = λ s. ap (λ (t : FlatRefusal). t.at) flat ∙ sym counted;
    encodes_none = λ s some. normalises.unencoded some.0 some.1;
    place = λ s. record { refusal = refusal; numbers = flat; within = lies; counts = counts };
    statuses = inr (inl is);
  }

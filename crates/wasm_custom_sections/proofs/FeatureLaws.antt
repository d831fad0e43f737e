-- The laws of target features, and what is written of them.
use Rattle.std.proofs.Common.{◌≡◌, ℕ, ◌+◌, true, List, [], ◌∷◌, ◌++◌, length, Some, Result, OnOk, OnErr, IfErr, refl}
use Rattle.std.specs.Prelude.{is_some}
use Rattle.wasm_codec.specs.declared.encode.EncodeError.{EncodeError}
use Rattle.wasm_codec.specs.Encoding.{IsCount, IsMinimal}
use Rattle.wasm_codec.specs.Lawful.{IsLawful}
use Rattle.wasm_codec.specs.formats.Grammar.{TakesBytes}
use Rattle.wasm_codec.proofs.FormatLaws.{IsFound, Lawful-both, Lawful-made, Lawful-one-byte, takes_bytes}
use Rattle.wasm_codec.proofs.NumberLaws.{written}
use Rattle.wasm_externals.specs.formats.Names.{name}
use Rattle.wasm_externals.proofs.NameLaws.{name_is_lawful, in_name}
use Rattle.wasm_lists.specs.EncodedLists.{EncodedItems}
use Rattle.wasm_custom_sections.specs.Gaining.{AddsNamed}
use Rattle.wasm_custom_sections.specs.declared.target_features.FeaturePrefix.{FeaturePrefix}
use Rattle.wasm_custom_sections.specs.declared.target_features.FeaturePrefix.TheVariants as prefixes
use Rattle.wasm_custom_sections.specs.formats.TargetFeatures.{FeatureParts, feature_of, feature_prefix, prefix_code, target_feature}
use Rattle.wasm_custom_sections.proofs.GainingLaws.{IsRefused, adds_named}

prefix_found : (p : FeaturePrefix) → IsFound prefix_code (prefixes.Used ∷ prefixes.Disallowed ∷ []) p
prefix_found prefixes.Used = (refl, refl)
prefix_found prefixes.Disallowed = (refl, refl)

prefix_is_lawful : IsLawful feature_prefix
unfolding feature_prefix
prefix_is_lawful = Lawful-one-byte prefix_code (prefixes.Used ∷ prefixes.Disallowed ∷ []) prefix_found

pub feature_is_lawful : IsLawful target_feature
unfolding target_feature
feature_is_lawful = Lawful-made feature_of (λ f. Some (f.prefix, f.name)) (λ p. refl) (Lawful-both prefix_is_lawful name_is_lawful)

pub feature_takes : TakesBytes target_feature.Encodes
unfolding target_feature feature_prefix
feature_takes = takes_bytes feature_is_lawful refl

-- ---- writing

prefix_there : (p : FeaturePrefix) → is_some (prefix_code p) ≡ true
prefix_there prefixes.Used = refl
prefix_there prefixes.Disallowed = refl

feature_there : (f : FeatureParts) → name.InRange f.name → target_feature.InRange f
unfolding target_feature feature_prefix
feature_there f fits = ((prefix_there f.prefix, fits), refl)

pub feature_written : (f : FeatureParts) → IsMinimal name.Encodes name.bytes f.name → IsMinimal target_feature.Encodes target_feature.bytes f
feature_written f h = written feature_is_lawful.minimal f (feature_there f (in_name f.name h))

pub adds_feature : (was old new : EncodedItems) (prefix : FeaturePrefix) (text : List ℕ) (r : Result (Unit {0}) EncodeError) → was ≡ old → OnOk r (new.count ≡ was.count + 1) → OnOk r (new.bytes ≡ was.bytes ++ target_feature.bytes (feature_of (prefix, text)))
    → OnOk r (IsMinimal target_feature.Encodes target_feature.bytes (feature_of (prefix, text))) → OnErr r (new ≡ was) → IfErr r (IsRefused (IsCount (length text)) was) → AddsNamed target_feature (length text) old (feature_of (prefix, text)) new r
adds_feature was old new prefix text r same count bytes written unchanged refusal = adds_named feature_is_lawful was old new (feature_of (prefix, text)) r same text count bytes written unchanged refusal

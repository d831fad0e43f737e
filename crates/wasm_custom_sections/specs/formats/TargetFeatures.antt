-- The contents of target features sections (tool conventions, Target Features Section).
use Rattle.std.specs.Prelude.{ℕ, List, [], ◌∷◌, map, Option, Some}
use Rattle.wasm_codec.specs.formats.Combinators.{Format, ◌⊗◌, made, one_byte}
use Rattle.wasm_externals.specs.formats.Names.{name}
use Rattle.wasm_custom_sections.specs.declared.target_features.FeaturePrefix.{FeaturePrefix}
use Rattle.wasm_custom_sections.specs.declared.target_features.FeaturePrefix.TheVariants as prefixes
use Rattle.wasm_custom_sections.specs.declared.target_features.TargetFeature.{TargetFeature}

-- The parts of a feature, without the borrow from the input.
pub record FeatureParts : Type 0 where
  pub prefix : FeaturePrefix
  pub name : List ℕ

-- The parts of a feature that borrows from the input.
abbrev pub feature_parts : TargetFeature → FeatureParts
feature_parts f = record { prefix = f.prefix; name = f.name.now }

-- The parts of each feature.
abbrev pub all_feature_parts : List TargetFeature → List FeatureParts
all_feature_parts = map feature_parts

abbrev pub prefix_code : FeaturePrefix → Option ℕ
prefix_code prefixes.Used = Some 0x2b
prefix_code prefixes.Disallowed = Some 0x2d

-- The prefix of a feature: '+' or '-'.
unfoldable pub feature_prefix : Format FeaturePrefix
feature_prefix = one_byte prefix_code (prefixes.Used ∷ prefixes.Disallowed ∷ [])

-- The feature with these parts.
abbrev pub feature_of : FeaturePrefix × List ℕ → FeatureParts
feature_of p = record { prefix = p.0; name = p.1 }

-- A feature. The contents of the section are a list of them.
-- feature ::= prefix:(0x2b | 0x2d) name:name
unfoldable pub target_feature : Format FeatureParts
target_feature = made feature_of (λ f. Some (f.prefix, f.name)) (feature_prefix ⊗ name)

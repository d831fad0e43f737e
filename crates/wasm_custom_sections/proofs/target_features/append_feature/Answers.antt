use Rattle.std.proofs.Common.{[], ◌∷◌, refl}
use Rattle.wasm_codec.proofs.AppendLaws.{appends_after, appends_as}
use Rattle.wasm_custom_sections.specs.formats.TargetFeatures.{feature_parts, target_feature}
use Rattle.wasm_custom_sections.proofs.FeatureLaws.{feature_written}
use Rattle.wasm_custom_sections.proofs.target_features.append_feature.Goals as goal

pub returns : goal.returns
unfolding target_feature
returns g c =
    appends_as (rw c.prefix_byte.ensures refl) (feature_written (feature_parts c.args.item.now)) (appends_after (c.prefix_byte.result ∷ []) c.append_name.ensures (rw (← c.in_ok-reserve.ensures.items) c.push_reserved.ensures.items))

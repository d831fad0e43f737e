use Rattle.wasm_custom_sections.proofs.FeatureLaws.{adds_feature}
use Rattle.wasm_custom_sections.proofs.target_features.CustomList+TargetFeature.feature.Goals as goal

pub returns : goal.returns
returns c = record { adds = adds_feature c.self.inside.items c.args.self.now c.add.new.self c.args.prefix c.args.name.now c.add.result c.self.view_is c.add.ensures.count c.add.ensures.bytes c.add.ensures.written c.add.ensures.err c.add.ensures.refused }

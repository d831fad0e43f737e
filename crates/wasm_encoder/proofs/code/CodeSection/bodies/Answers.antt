use Rattle.wasm_encoder.proofs.CodeSectionLaws.{adds_bodies}
use Rattle.wasm_encoder.proofs.code.CodeSection.bodies.Goals as goal

pub returns : goal.returns
returns c = record { adds = adds_bodies c.self.inside.bodies c.args.self.now c.add_all.new.self c.args.bodies.now c.add_all.result c.self.view_is c.add_all.ensures.count c.add_all.ensures.bytes c.add_all.ensures.can c.add_all.ensures.written c.add_all.ensures.err c.add_all.ensures.refused c.add_all.ensures.too_many }

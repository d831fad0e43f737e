use Rattle.wasm_custom_sections.proofs.HintLaws.{adds_hints}
use Rattle.wasm_custom_sections.proofs.branch_hints.CustomList+FunctionHints.function_hints.Goals as goal

pub returns : goal.returns
returns c = record { adds = adds_hints c.self.inside.items c.args.self.now c.add.new.self c.args.function_index c.args.hints.now c.add.result c.self.view_is c.add.ensures.count c.add.ensures.bytes c.add.ensures.written c.add.ensures.err c.add.ensures.refused }

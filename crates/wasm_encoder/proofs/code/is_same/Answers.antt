use Rattle.std.proofs.Common.{◌∙◌, sym}
use Rattle.wasm_encoder.proofs.SameTypes.{type_same}
use Rattle.wasm_encoder.proofs.code.is_same.Goals as goal

pub returns-clause-same : goal.returns-clause-same
returns-clause-same c = λ is. type_same c.args.ty c.args.other (sym c.eq.ensures ∙ is)

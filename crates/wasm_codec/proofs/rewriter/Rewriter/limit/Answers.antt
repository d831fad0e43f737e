use Rattle.std.proofs.Common.{ap, ◌∙◌, arith}
use Rattle.wasm_codec.specs.Rewriter.{limited}
use Rattle.wasm_codec.proofs.Windows.{limits_the_rest, length_left}
use Rattle.wasm_codec.proofs.rewriter.Rewriter.limit.Goals as goal

pub returns : goal.returns
returns c =
    let r = c.self.inside in
    let long = length_left r.bytes.now r.written r.from r.position r.end r.minimal r.bytes.ghost_name c.self.invariant.2 c.self.invariant.3 c.args.self.now c.self.view_is in
    limits_the_rest r.bytes.now r.written r.from r.position r.end r.minimal r.bytes.ghost_name c.args.size (omega arith) c.self.invariant.3 ∙ ap (limited c.args.size) c.self.view_is

use Rattle.std.proofs.Common.{ap, ◌∙◌, arith}
use Rattle.wasm_codec.specs.Rewriter.{skipped}
use Rattle.wasm_codec.proofs.Windows.{stays, length_left}
use Rattle.wasm_codec.proofs.rewriter.Rewriter.skip.Goals as goal

pub returns : goal.returns
returns c =
    let r = c.self.inside in
    let long = length_left r.bytes.now r.written r.from r.position r.end r.minimal r.bytes.ghost_name c.self.invariant.2 c.self.invariant.3 c.args.self.now c.self.view_is in
    stays r.bytes.now r.written r.from r.position r.end r.minimal r.bytes.ghost_name c.args.count c.self.invariant.1 (omega arith) ∙ ap (skipped c.args.count) c.self.view_is

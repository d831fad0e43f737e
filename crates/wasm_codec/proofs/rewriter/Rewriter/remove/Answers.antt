use Rattle.std.proofs.Common.{ap, ◌∙◌, arith}
use Rattle.wasm_codec.specs.Rewriter.{without}
use Rattle.wasm_codec.proofs.Windows.{cuts_out, length_all}
use Rattle.wasm_codec.proofs.rewriter.Rewriter.remove.Goals as goal

pub returns : goal.returns
returns c =
    let r = c.self.inside in
    let m = c.move_run-end in
    let long = length_all r.bytes.now r.written r.from r.position r.end r.minimal r.bytes.ghost_name c.self.invariant.0 c.self.invariant.1 (omega arith) c.args.self.now c.self.view_is in
    rw c.copy_within.ensures.after
    (cuts_out r.bytes.now m.new.bytes r.written r.from r.position r.end r.minimal r.bytes.ghost_name m.result c.args.mark c.args.count c.self.invariant.2 (omega (arith, m.ensures.end)) (omega arith) m.ensures.done m.ensures.left (omega (arith, long, m.ensures.end))
    ∙ ap (without c.args.mark c.args.count) c.self.view_is)

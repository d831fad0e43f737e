use Rattle.std.proofs.Common.{ap, ◌∙◌, arith}
use Rattle.wasm_codec.specs.Rewriter.{with_byte}
use Rattle.wasm_codec.proofs.Windows.{sets_byte, length_all}
use Rattle.wasm_codec.proofs.rewriter.Rewriter.set_byte.Goals as goal

pub returns : goal.returns
returns c =
    let r = c.self.inside in
    let m = c.move_run-self-inside in
    let long = length_all r.bytes.now r.written r.from r.position r.end r.minimal r.bytes.ghost_name c.self.invariant.0 c.self.invariant.1 (omega arith) c.args.self.now c.self.view_is in
    sets_byte r.bytes.now m.new.bytes r.written r.from r.position r.end r.minimal r.bytes.ghost_name m.result c.args.mark c.args.byte c.self.invariant.2 (omega (arith, m.ensures.end)) m.ensures.done m.ensures.left (omega (arith, long, m.ensures.end))
    ∙ ap (with_byte c.args.mark c.args.byte) c.self.view_is

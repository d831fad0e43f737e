use Rattle.std.proofs.Common.{ap, ◌∙◌, arith}
use Rattle.wasm_codec.specs.Rewriter.{resized}
use Rattle.wasm_codec.proofs.Windows.{resizes, length_all, length_done}
use Rattle.wasm_codec.proofs.rewriter.Rewriter.put_size.Goals as goal

pub returns : goal.returns
returns c =
    let r = c.self.inside in
    let m = c.move_run-end in
    let z = c.write_size-self-inside in
    let long = length_all r.bytes.now r.written r.from r.position r.end r.minimal r.bytes.ghost_name c.self.invariant.0 c.self.invariant.1 (omega arith) c.args.self.now c.self.view_is in
    let len = length_done r.bytes.now r.written r.from r.position c.self.invariant.0 c.self.invariant.1 (omega arith) in
    resizes r.bytes.now m.new.bytes z.new.bytes r.written r.from r.position r.end r.minimal r.bytes.ghost_name m.result c.args.mark c.args.digits z.result c.self.invariant.2 (omega (arith, m.ensures.end)) m.ensures.done (omega (arith, len, m.ensures.end)) m.ensures.left (omega (arith, long, m.ensures.end)) z.ensures.done z.ensures.left
    ∙ ap (resized c.args.mark c.args.digits) c.self.view_is

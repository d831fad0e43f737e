use Rattle.std.proofs.Common.{refl, ap, ◌∙◌, arith}
use Rattle.wasm_codec.specs.Rewriter.{shortened}
use Rattle.wasm_codec.proofs.Windows.{shortens, length_left}
use Rattle.wasm_codec.proofs.rewriter.Rewriter.shorten_more.Goals as goal

pub returns : goal.returns
returns c =
    let r = c.self.inside in
    let m = c.move_run-self-inside in
    let long = length_left r.bytes.now r.written r.from r.position r.end r.minimal r.bytes.ghost_name c.self.invariant.2 c.self.invariant.3 c.args.self.now c.self.view_is in
    let same = shortens r.bytes.now m.new.bytes r.written r.from r.position r.end r.minimal r.bytes.ghost_name c.args.kept c.args.count c.self.invariant.0 c.self.invariant.1 c.requires.some c.requires.shorter (omega arith) c.self.invariant.3 (omega arith) m.result m.ensures.end m.ensures.done m.ensures.left _ refl in
    same ∙ ap (shortened c.args.kept c.args.count) c.self.view_is

use Rattle.std.proofs.Common.{◌-◌, arith}
use Rattle.wasm_codec.specs.Leb128.{unsigned_leb128}
use Rattle.wasm_codec.proofs.Windows.{size_written}
use Rattle.wasm_codec.proofs.rewriter.write_size.Goals as goal

pub returns-clause-done : goal.returns-clause-done
returns-clause-done c =
    let o = c.overwrite in
    let m = c.move_run in
    (size_written c.args.bytes.now o.new.bytes m.new.bytes (unsigned_leb128 (c.args.end - c.args.begin)) c.args.start o.result c.args.begin c.args.end m.result o.ensures.digits (omega arith) c.requires.begin (omega arith) o.ensures.items m.ensures.done m.ensures.left).done

pub returns-clause-left : goal.returns-clause-left
returns-clause-left c =
    let o = c.overwrite in
    let m = c.move_run in
    (size_written c.args.bytes.now o.new.bytes m.new.bytes (unsigned_leb128 (c.args.end - c.args.begin)) c.args.start o.result c.args.begin c.args.end m.result o.ensures.digits (omega arith) c.requires.begin (omega arith) o.ensures.items m.ensures.done m.ensures.left).left

use Rattle.std.proofs.Common.{◌≡◌, [], ◌∷◌, ◌++◌}
use Rattle.wasm_codec.proofs.AppendLaws.{appended}
use Rattle.wasm_externals.proofs.ExpressionLaws.{expr_appended, expr_counted, expr_written}
use Rattle.wasm_externals.proofs.expressions.append_expr.Goals as goal

pub returns : goal.returns
returns g c =
    let ended : c.push_reserved.new.self.items ≡ c.append_calls.new.bytes.items ++ 0x0b ∷ [] = rw (← c.in_ok-reserve.ensures.items) c.push_reserved.ensures.items in
    let bytes = expr_appended c.args.calls.now c.args.sink.now.items c.append_calls.new.bytes.items c.push_reserved.new.self.items c.in_ok-append_calls.ensures.ok ended in
    appended bytes (expr_counted c.args.calls.now c.in_ok-append_calls.ensures.encodes) (expr_written c.args.calls.now c.in_ok-append_calls.ensures.encodes)

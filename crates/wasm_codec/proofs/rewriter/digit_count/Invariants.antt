use Rattle.std.proofs.Common.{◌≡◌, ◌+◌, ◌-◌, Bool, length}
use Rattle.wasm_codec.specs.Leb128.{digits_of}
use Rattle.wasm_codec.proofs.rewriter.digit_count.Given as goal

abbrev pub invariant-loop-count : goal.invariant-loop-count
invariant-loop-count l = (turn : Bool) → l.count - 1 + length (digits_of turn l.top (10 - l.count) l.rest) ≡ length (digits_of turn l.top 9 l.number)

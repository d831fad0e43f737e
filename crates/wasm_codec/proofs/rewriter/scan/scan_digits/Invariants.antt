use Rattle.std.proofs.Common.{◌≡◌, take}
use Rattle.wasm_codec.specs.formats.Numbers.{last}
use Rattle.wasm_codec.specs.Scanning.{AreMore}
use Rattle.wasm_codec.proofs.rewriter.scan.scan_digits.Given as goal

abbrev pub invariant-loop-index : goal.invariant-loop-index
invariant-loop-index l = AreMore (take l.index l.bytes) × (l.before ≡ last (take l.index l.bytes))

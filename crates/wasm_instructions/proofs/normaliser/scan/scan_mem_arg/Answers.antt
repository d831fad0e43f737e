use Rattle.std.proofs.Common.{◌-◌, ◌^◌, length, drop, length-drop, arith}
use Rattle.wasm_codec.specs.formats.Combinators.{u64}
use Rattle.wasm_instructions.proofs.ScannedCalls.{mem_arg_scanned, behind_first, is_within}
use Rattle.wasm_instructions.proofs.normaliser.scan.scan_mem_arg.Goals as goal

pub behind_byte-requires : goal.behind_byte-requires
behind_byte-requires c = is_within c.in_ok-offset.offset (length (drop 1 c.args.bytes.now)) (2 ^ 64 - 2) (omega (arith, length-drop 1 c.args.bytes.now)) (behind_first u64 c.args.bytes.now c.in_ok-offset.offset c.in_ok-offset.ensures).0

pub returns : goal.returns
returns c = rw c.behind_byte.ensures (mem_arg_scanned c.args.bytes.now c.in_ok-offset.offset (omega arith) (omega (arith, c.if-bytes-ge64.false)) (behind_first u64 c.args.bytes.now c.in_ok-offset.offset c.in_ok-offset.ensures))

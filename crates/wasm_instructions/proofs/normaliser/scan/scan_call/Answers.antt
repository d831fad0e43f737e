use Rattle.std.proofs.Common.{Some, drop, refl, ap, ◌∙◌, arith}
use Rattle.wasm_codec.specs.formats.Combinators.{u32}
use Rattle.wasm_codec.specs.declared.rewriter.scan.Scanned.TheVariants as scanned
use Rattle.wasm_instructions.proofs.ScannedCalls.{call_scanned, behind_first, none_scanned, index_scanned}
use Rattle.wasm_instructions.specs.formats.Opcodes.{ranges}
use Rattle.wasm_instructions.specs.declared.table.opcode.Kind.TheVariants as kinds
use Rattle.wasm_instructions.specs.formats.Instructions.{operands_format}
use Rattle.wasm_instructions.proofs.normaliser.scan.scan_call.Goals as goal

pub scanned_kind-requires : goal.scanned_kind-requires
unfolding ranges
scanned_kind-requires c = refl

pub returns-in-None : goal.returns-in-None
returns-in-None c = call_scanned c.args.bytes.now kinds.None (scanned.Minimal 0) (omega arith) (c.in_ok-kind.ensures ∙ ap Some c.in-None.is) (none_scanned (drop 1 c.args.bytes.now))

pub returns-in-Index : goal.returns-in-Index
returns-in-Index c =
    let s = c.in_ok-scan_u32-in-Index.field-0 in
    rw c.behind_byte.ensures (call_scanned c.args.bytes.now kinds.Index s (omega arith) (c.in_ok-kind.ensures ∙ ap Some c.in-Index.is) (index_scanned (drop 1 c.args.bytes.now) (Some s) (behind_first u32 c.args.bytes.now s c.in_ok-scan_u32-in-Index.ensures)))

pub returns-in-Mem : goal.returns-in-Mem
returns-in-Mem c =
    let s = c.in_ok-scan_operands-in-Mem.field-0 in
    rw c.behind_byte-in-Mem.ensures (call_scanned c.args.bytes.now kinds.Mem s (omega arith) (c.in_ok-kind.ensures ∙ ap Some c.in-Mem.is) (behind_first (operands_format kinds.Mem) c.args.bytes.now s c.in_ok-scan_operands-in-Mem.ensures))

pub returns : goal.returns
returns c =
    let k = c.in_ok-kind.kind in
    let s = c.in_ok-scanned-in_default.scanned in
    rw c.behind_byte-2.ensures (call_scanned c.args.bytes.now k s (omega arith) c.in_ok-kind.ensures (behind_first (operands_format k) c.args.bytes.now s c.in_ok-scanned-in_default.ensures))

use Rattle.std.proofs.Common.{Some, get_or, refl, ap, ◌∙◌, arith}
use Rattle.wasm_instructions.specs.formats.Opcodes.{ranges}
use Rattle.wasm_instructions.specs.declared.table.opcode.Kind.TheVariants as kinds
use Rattle.wasm_instructions.proofs.PaddedLoads.{behind_opcode}
use Rattle.wasm_instructions.proofs.ScannedCalls.{no_prefix}
use Rattle.wasm_instructions.proofs.ScannedPrefixed.{plain_opcode}
use Rattle.wasm_instructions.proofs.normaliser.scan.scan_padded_load.Goals as goal

pub scanned_kind-requires : goal.scanned_kind-requires
unfolding ranges
scanned_kind-requires c = refl

pub returns-in-Some-Mem : goal.returns-in-Some-Mem
returns-in-Some-Mem c =
    let bytes = c.args.bytes.now in
    let kind = c.in-Some-Mem.ensures ∙ ap Some c.in-Some-Mem.field-0-is in
    behind_opcode bytes c.scan_padded_alignment.result (plain_opcode bytes kinds.Mem (omega arith) (no_prefix (get_or bytes 0 0) kinds.Mem kind) kind) c.scan_padded_alignment.ensures

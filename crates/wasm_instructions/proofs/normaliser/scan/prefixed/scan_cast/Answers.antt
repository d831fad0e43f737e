use Rattle.std.proofs.Common.{◌+◌}
use Rattle.wasm_codec.specs.formats.Combinators.{u32}
use Rattle.wasm_codec.proofs.ScanLaws.{from_start}
use Rattle.wasm_types.specs.formats.Types.{heap_type}
use Rattle.wasm_instructions.proofs.ScannedParts.{cast_scanned}
use Rattle.wasm_instructions.proofs.normaliser.scan.prefixed.scan_cast.Goals as goal

pub returns : goal.returns
returns c =
    let bytes = c.args.bytes.now in
    let flags_size = c.in_ok-flags.flags in
    let label_size = c.in_ok-label.label in
    let before_size = c.in_ok-before.before in
    let after_size = c.in_ok-after.after in
    cast_scanned bytes flags_size label_size before_size after_size c.in_ok-flags.ensures (from_start u32 bytes (flags_size) label_size c.in_ok-label.ensures) (from_start heap_type bytes (flags_size + label_size) before_size c.in_ok-before.ensures) (from_start heap_type bytes (flags_size + label_size + before_size) after_size c.in_ok-after.ensures)

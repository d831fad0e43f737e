use Rattle.wasm_codec.specs.formats.Combinators.{a_byte}
use Rattle.wasm_codec.proofs.ScanLaws.{from_start}
use Rattle.wasm_instructions.proofs.ScannedParts.{mem_lane_scanned}
use Rattle.wasm_instructions.proofs.normaliser.scan.prefixed.scan_mem_lane.Goals as goal

pub returns : goal.returns
returns c =
    let bytes = c.args.bytes.now in
    let arg_size = c.in_ok-arg.arg in
    let lane_size = c.in_ok-lane.lane in
    mem_lane_scanned bytes arg_size lane_size c.in_ok-arg.ensures (from_start a_byte bytes (arg_size) lane_size c.in_ok-lane.ensures)

use Rattle.std.proofs.Common.{◌+◌, arith}
use Rattle.wasm_codec.proofs.ScanLaws.{from_start}
use Rattle.wasm_types.specs.formats.Types.{result_type}
use Rattle.wasm_types.proofs.ScannedTypes.{function_scanned}
use Rattle.wasm_types.proofs.types.function.scan_function_type.Goals as goal

pub returns : goal.returns
returns c =
    let bytes = c.args.bytes.now in
    let params = c.in_ok-params.params in
    function_scanned bytes params c.in_ok-results.results (omega arith) (omega arith) (from_start result_type bytes 1 params c.in_ok-params.ensures) (from_start result_type bytes (1 + params) c.in_ok-results.results c.in_ok-results.ensures)

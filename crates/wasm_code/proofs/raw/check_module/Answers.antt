use Rattle.wasm_codec.specs.Outcomes.{as_read}
use Rattle.wasm_codec.proofs.DecodingLaws.{checks}
use Rattle.wasm_code.proofs.ModuleFormatLaws.{Lawful-raw-module, is_minimal_module}
use Rattle.wasm_code.proofs.raw.check_module.Goals as goal

pub returns : goal.returns
returns c = rw c.without_reason.ensures (record { checks = checks Lawful-raw-module c.args.bytes.now is_minimal_module (as_read c.check_raw_module.result) c.check_raw_module.ensures.checks })

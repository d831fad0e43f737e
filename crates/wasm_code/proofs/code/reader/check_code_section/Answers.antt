use Rattle.wasm_codec.specs.Outcomes.{as_read}
use Rattle.wasm_codec.proofs.BodyLaws.{Lawful-body}
use Rattle.wasm_codec.proofs.DecodingLaws.{checks}
use Rattle.wasm_code.proofs.CodeBodyLaws.{Lawful-code-section-body, is_minimal_code}
use Rattle.wasm_code.proofs.code.reader.check_code_section.Goals as goal

pub returns : goal.returns
returns c = rw c.without_reason.ensures (record { checks = checks (Lawful-body Lawful-code-section-body) c.args.body.now is_minimal_code (as_read c.check_list_to_end.result) c.check_list_to_end.ensures.checks })

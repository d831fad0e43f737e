use Rattle.wasm_codec.specs.Outcomes.{as_read}
use Rattle.wasm_codec.proofs.BodyLaws.{Lawful-body}
use Rattle.wasm_codec.proofs.DecodingLaws.{checks}
use Rattle.wasm_types.proofs.TypeFormatLaws.{Lawful-type-body, is_minimal_body}
use Rattle.wasm_types.proofs.type_sections.check_type_section.Goals as goal

pub returns : goal.returns
returns c = rw c.without_reason.ensures (record { checks = checks (Lawful-body Lawful-type-body) c.args.body.now is_minimal_body (as_read c.check_list_to_end.result) c.check_list_to_end.ensures.checks })

use Rattle.wasm_codec.specs.Outcomes.{as_read}
use Rattle.wasm_codec.proofs.DecodingLaws.{decodes}
use Rattle.wasm_sections.specs.formats.EntryParts.{custom_parts}
use Rattle.wasm_sections.proofs.CustomLaws.{custom_is_lawful}
use Rattle.wasm_sections.proofs.custom.read_custom.Goals as goal

pub returns : goal.returns
returns c = rw c.without_reason.ensures (record { decodes = decodes custom_is_lawful c.args.body.now custom_parts (as_read c.read_name_and_bytes.result) c.read_name_and_bytes.ensures.reads; memory = c.read_name_and_bytes.ensures.memory })

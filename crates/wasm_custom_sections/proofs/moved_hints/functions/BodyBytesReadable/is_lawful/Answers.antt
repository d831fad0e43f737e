use Rattle.wasm_codec.proofs.BodyLaws.{Lawful-byte-list}
use Rattle.wasm_custom_sections.proofs.MovedFunctionLaws.{byte_list_takes}
use Rattle.wasm_custom_sections.proofs.moved_hints.functions.BodyBytesReadable.is_lawful.Goals as goal

pub returns-clause-lawful : goal.returns-clause-lawful
returns-clause-lawful c = Lawful-byte-list

pub returns-clause-some : goal.returns-clause-some
returns-clause-some c = byte_list_takes

use Rattle.std.proofs.Common.{refl}
use Rattle.wasm_codec.proofs.FormatLaws.{Lawful-made}
use Rattle.wasm_codec.proofs.BodyLaws.{Lawful-body}
use Rattle.wasm_types.proofs.TypeFormatLaws.{Lawful-type-body}
use Rattle.wasm_code.specs.formats.Sections.{type_entries}
use Rattle.wasm_code.specs.formats.Modules.{entries_part}
use Rattle.wasm_code.proofs.normaliser.TypeEntriesRewritableBody.is_lawful.Goals as goal

pub returns : goal.returns
returns c = Lawful-body (Lawful-made type_entries entries_part (λ entries. refl) Lawful-type-body)

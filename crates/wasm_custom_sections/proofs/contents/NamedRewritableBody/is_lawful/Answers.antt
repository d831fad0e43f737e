use Rattle.wasm_custom_sections.proofs.ContentsLaws.{named_is_lawful}
use Rattle.wasm_custom_sections.proofs.contents.NamedRewritableBody.is_lawful.Goals as goal

pub returns : goal.returns
returns g c = named_is_lawful c.is_lawful.ensures

use Rattle.wasm_sections.proofs.ModuleSectionLaws.{list_body_is_lawful}
use Rattle.wasm_sections.proofs.bodies.ListOfRewritableBody.is_lawful.Goals as goal

pub returns : goal.returns
returns g c = list_body_is_lawful c.is_lawful.ensures.lawful

use Rattle.std.proofs.Common.{◌∙◌}
use Rattle.wasm_custom_sections.proofs.GainingLaws.{list_written}
use Rattle.wasm_custom_sections.proofs.custom_list.CustomListEncode.encode.Goals as goal

pub returns-clause-written : goal.returns-clause-written
returns-clause-written g c = list_written _ g.T.CustomItem.format c.is_lawful.ensures.lawful c.self.inside.items c.args.self.now c.self.view_is c.in_ok-contents.ensures.few c.section_name.result.now g.T.CustomItem.named c.as_slice.result.now c.section_name.ensures (c.as_slice.ensures.value ∙ c.in_ok-contents.ensures.ok) c.encode.result c.encode.ensures.written

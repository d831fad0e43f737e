use Rattle.wasm_sections.proofs.ListSectionLaws.{encodes_items}
use Rattle.wasm_sections.proofs.list_section.ListSectionEncode.encode.Goals as goal

pub returns : goal.returns
returns g c = record { encodes = encodes_items c.is_lawful.ensures.lawful c.self.inside.items c.args.self.now c.args.sink.now.items c.encode.new.sink.items c.encode.result c.self.view_is c.encode.ensures.few c.encode.ensures.ok c.encode.ensures.can c.encode.ensures.refused c.encode.ensures.err }

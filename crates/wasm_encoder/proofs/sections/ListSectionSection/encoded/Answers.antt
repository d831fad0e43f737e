use Rattle.std.proofs.Common.{[], refl, subst, Ok}
use Rattle.wasm_codec.specs.Encoding.{byte_list_bytes, IsCount}
use Rattle.wasm_encoder.specs.EncodedLists.{body_bytes}
use Rattle.wasm_encoder.proofs.WriterLaws.{list_in_parts, list_is}
use Rattle.wasm_sections.specs.ListSections.{IsWrittenList}
use Rattle.wasm_sections.proofs.ListSectionLaws.{encodes_items}
use Rattle.wasm_encoder.proofs.sections.ListSectionSection.encoded.Goals as goal

pub returns : goal.returns
returns g c =
    let section = c.args.self.now in
    let same = list_is c.len.result c.as_slice.result.now section section c.len.ensures c.as_slice.ensures refl in
    record {
      encodes = list_in_parts (record { count = c.len.result; bytes = c.as_slice.result.now }) section c.id.result g.T.SectionItem.section.id (IsWrittenList g.T.SectionItem.section section) c.of_list.result same c.id.ensures
          (λ counted. (encodes_items c.is_lawful.ensures.lawful section section [] (byte_list_bytes (body_bytes section)) (Ok tt) refl (subst IsCount c.len.ensures c.of_list.ensures.few) refl counted tt tt).written)
          c.of_list.ensures.ok c.of_list.ensures.can c.of_list.ensures.refused;
    }

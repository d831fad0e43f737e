use Rattle.std.proofs.Common.{[], refl, subst, Ok}
use Rattle.wasm_codec.specs.Encoding.{byte_list_bytes, IsCount}
use Rattle.wasm_encoder.specs.EncodedLists.{EncodedItems, body_bytes}
use Rattle.wasm_encoder.specs.CodeSections.{HoldsBodies, IsCodeSection}
use Rattle.wasm_encoder.proofs.CodeSectionLaws.{section_encodes}
use Rattle.wasm_encoder.proofs.WriterLaws.{list_in_parts, list_is}
use Rattle.wasm_encoder.proofs.code.CodeSectionSection.encoded.Goals as goal

pub returns : goal.returns
returns c =
    let section = c.args.self.now in
    let same = list_is c.len.result c.as_slice.result.now c.self.inside.bodies section c.len.ensures c.as_slice.ensures c.self.view_is in
    let few : IsCount section.count = subst (λ (list : EncodedItems). IsCount list.count) c.self.view_is (subst IsCount c.len.ensures c.of_list.ensures.few) in
    record {
      encodes = list_in_parts (record { count = c.len.result; bytes = c.as_slice.result.now }) section c.id.result 10 (HoldsBodies section × IsCodeSection section) c.of_list.result same c.id.ensures
          (λ counted. (section_encodes section section [] (byte_list_bytes (body_bytes section)) (Ok tt) refl few refl counted tt tt).written)
          c.of_list.ensures.ok c.of_list.ensures.can c.of_list.ensures.refused;
    }

use Rattle.wasm_codec.specs.Outcomes.{as_read}
use Rattle.wasm_codec.proofs.BodyLaws.{Lawful-body}
use Rattle.wasm_codec.proofs.DecodingLaws.{decodes}
use Rattle.wasm_codec.proofs.PlaceLists.{prefix_free}
use Rattle.wasm_types.specs.formats.Types.{type_body}
use Rattle.wasm_types.proofs.TypeFormatLaws.{Lawful-storage-type, Lawful-sub-type, Lawful-recursive-type, Lawful-type-body}
use Rattle.wasm_types.proofs.type_sections.read_type_section.Goals as goal

pub returns : goal.returns
unfolding type_body
returns c =
    let e = c.read_list_to_end.ensures in
    rw c.without_reason.ensures (record {
      decodes = decodes (Lawful-body Lawful-type-body) c.args.body.now (λ entries. entries.items) (as_read c.read_list_to_end.result) (record { given = e.given; prefix = e.prefix; unencoded = e.unencoded });
      prefix_free = record { storage_types = prefix_free Lawful-storage-type; sub_types = prefix_free Lawful-sub-type; entries = prefix_free Lawful-recursive-type };
    })

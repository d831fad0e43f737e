use Rattle.std.proofs.Common.{refl}
use Rattle.wasm_codec.proofs.AppendLaws.{appends_after, appends_more}
use Rattle.wasm_custom_sections.specs.formats.ProducerParts.{producer_parts}
use Rattle.wasm_custom_sections.specs.formats.Producers.{producer}
use Rattle.wasm_custom_sections.proofs.ProducerLaws.{producer_written}
use Rattle.wasm_custom_sections.proofs.producers.append_producer.Goals as goal

pub returns : goal.returns
unfolding producer
returns g c =
    let one = c.in_ok-append_name.ensures in
    appends_more refl (λ can. (one.can, can)) (λ both. both.1) (λ can. producer_written (producer_parts c.args.item.now) one.written) (appends_after _ c.append_name-2.ensures one.ok)

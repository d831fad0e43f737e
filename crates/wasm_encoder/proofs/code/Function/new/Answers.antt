use Rattle.wasm_encoder.proofs.GivenLists.{function_made}
use Rattle.wasm_encoder.proofs.code.Function.new.Goals as goal

pub returns : goal.returns
returns g c = record {
  makes = (c.into_iter.result, c.into_iter.ensures.into_iter_gives, function_made g.L.IntoIter.Iterator.next_gives g.L.IntoIter.Iterator.remaining c.into_iter.result c.append_items.result c.append_items.ensures.too_many c.new-bytes.result.items c.append_items.new.sink.items c.in_ok-append_items.field-0 c.in_ok-append_items.was c.new-bytes.ensures.items c.in_ok-append_items.ensures.ok);
}

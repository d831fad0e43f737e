use Rattle.wasm_encoder.proofs.GivenLists.{adds_function}
use Rattle.wasm_encoder.proofs.type_section.CoreTypeEncoder.function.Goals as goal

pub returns : goal.returns
returns g c = record {
  adds = (c.into_iter-params.result, c.into_iter-params.ensures.into_iter_gives, (c.into_iter-results.result, c.into_iter-results.ensures.into_iter_gives, adds_function c.section.inside.entries c.args.self.section.now c.add_tagged_pair.new.self c.add_tagged_pair.result c.section.view_is c.add_tagged_pair.ensures.count c.add_tagged_pair.ensures.err g.P.IntoIter.Iterator.next_gives g.R.IntoIter.Iterator.next_gives g.P.IntoIter.Iterator.remaining g.R.IntoIter.Iterator.remaining c.into_iter-params.result c.into_iter-results.result c.add_tagged_pair.ensures.ok c.add_tagged_pair.ensures.refused));
}

use Rattle.wasm_encoder.proofs.GivenLists.{adds_struct}
use Rattle.wasm_encoder.proofs.type_section.CoreTypeEncoder.struct_.Goals as goal

pub returns : goal.returns
returns g c = record {
  adds = (c.into_iter.result, c.into_iter.ensures.into_iter_gives, adds_struct c.section.inside.entries c.args.self.section.now c.add_tagged.new.self c.add_tagged.result c.section.view_is c.add_tagged.ensures.count c.add_tagged.ensures.err g.F.IntoIter.Iterator.next_gives g.F.IntoIter.Iterator.remaining c.into_iter.result c.add_tagged.ensures.ok c.add_tagged.ensures.refused);
}

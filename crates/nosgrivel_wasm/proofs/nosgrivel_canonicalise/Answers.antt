use Rattle.nosgrivel_wasm.proofs.CanonicalLaws.{canonicalises}
use Rattle.nosgrivel_wasm.proofs.nosgrivel_canonicalise.Goals as goal

pub returns : goal.returns
returns c =
    let m = c.rewrite_and_check_in_place in
    record { canonicalises = canonicalises c.args.bytes.now m.new.bytes m.result c.tell.new.count c.tell.new.told c.tell.result m.ensures.len m.ensures.normalises m.ensures.checks m.ensures.place m.ensures.within m.ensures.counts m.ensures.numbers c.tell.ensures }

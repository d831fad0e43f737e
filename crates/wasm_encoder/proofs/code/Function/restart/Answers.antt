use Rattle.std.proofs.Common.{◌∙◌, ℕ, drop, take, ap}
use Rattle.wasm_encoder.proofs.GivenLists.{not_restarted, restarted}
use Rattle.wasm_encoder.proofs.code.Function.restart.Goals as goal

pub returns-in-Ok : goal.returns-in-Ok
returns-in-Ok g c =
    let old = c.self.inside.bytes in
    let all = c.append_items.new.sink.items in
    let rest = c.remove_first.ensures ∙ ap (λ (n : ℕ). drop n all) (c.len-before.ensures ∙ old.ok.0) in
    record { restarts = (c.into_iter.result, c.into_iter.ensures.into_iter_gives, rw (← c.self.view_is) (restarted g.L.IntoIter.Iterator.next_gives g.L.IntoIter.Iterator.remaining c.into_iter.result c.append_items.result c.append_items.ensures.too_many old.items all _ _ c.in-Ok.is c.in-Ok.ensures.ok rest)) }

pub returns-in-Err : goal.returns-in-Err
returns-in-Err g c =
    let old = c.self.inside.bytes in
    let all = c.append_items.new.sink.items in
    let same = c.truncate.ensures.items ∙ ap (λ (n : ℕ). take n all) (c.len-before.ensures ∙ old.ok.0) ∙ c.append_items.ensures.kept in
    record { restarts = (c.into_iter.result, c.into_iter.ensures.into_iter_gives, rw (← c.self.view_is) (not_restarted g.L.IntoIter.Iterator.next_gives g.L.IntoIter.Iterator.remaining c.into_iter.result c.append_items.result c.append_items.ensures.too_many old.items _ c.in-Err.error c.in-Err.is c.in-Err.ensures.refused same)) }

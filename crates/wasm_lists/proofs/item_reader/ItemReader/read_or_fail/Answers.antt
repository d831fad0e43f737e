use Rattle.std.proofs.Common.{◌≡◌, ℕ, ◌+◌, ◌<◌, ◌%◌, ◌^◌, false, arith}
use Rattle.wasm_lists.proofs.ItemReadingLaws.{next_counted, not_last, one_failed, one_given}
use Rattle.wasm_lists.proofs.item_reader.ItemReader.read_or_fail.Goals as goal

unwrapped : (n : ℕ) → n < 2 ^ 32 → n % 4294967296 ≡ n
unwrapped n lt = omega (arith, lt)

pub invariant_of-self : goal.invariant_of-self
invariant_of-self g c =
    let h = c.in-Ok.ensures in
    let s = c.self.inside in
    let some = not_last s.count s.passed s.cursor.left c.self.invariant.3 (rw (← c.self.view_is) at c.requires.more) in
    let one = one_given h.lawful h.some s.start s.len s.cursor c.read_item_if.new.cursor s.count s.passed ((s.passed + 1) % 4294967296) s.is_strict (g.T.Readable.view c.in-Ok.item) h.bytes c.self.invariant.1 some (λ lt. unwrapped (s.passed + 1) lt) h.reads in
    (h.passed, omega (arith, one.fewer, c.self.invariant.1), c.self.invariant.2, next_counted s.count s.passed ((s.passed + 1) % 4294967296) some (λ lt. unwrapped (s.passed + 1) lt))

pub returns-in-Ok-clause-gives : goal.returns-in-Ok-clause-gives
returns-in-Ok-clause-gives g c =
    let h = c.in-Ok.ensures in
    let s = c.self.inside in
    let some = not_last s.count s.passed s.cursor.left c.self.invariant.3 (rw (← c.self.view_is) at c.requires.more) in
    let going : s.ended ≡ false = rw (← c.self.view_is) at c.requires.going in
    rw (← c.self.view_is, c.len.ensures, going) (one_given h.lawful h.some s.start s.len s.cursor c.read_item_if.new.cursor s.count s.passed ((s.passed + 1) % 4294967296) s.is_strict (g.T.Readable.view c.in-Ok.item) h.bytes c.self.invariant.1 some (λ lt. unwrapped (s.passed + 1) lt) h.reads).gives

pub returns-in-Ok-clause-goes : goal.returns-in-Ok-clause-goes
returns-in-Ok-clause-goes g c =
    let h = c.in-Ok.ensures in
    let s = c.self.inside in
    let some = not_last s.count s.passed s.cursor.left c.self.invariant.3 (rw (← c.self.view_is) at c.requires.more) in
    let going : s.ended ≡ false = rw (← c.self.view_is) at c.requires.going in
    let one = one_given h.lawful h.some s.start s.len s.cursor c.read_item_if.new.cursor s.count s.passed ((s.passed + 1) % 4294967296) s.is_strict (g.T.Readable.view c.in-Ok.item) h.bytes c.self.invariant.1 some (λ lt. unwrapped (s.passed + 1) lt) h.reads in
    rw (← c.self.view_is, going) (record { on = λ finite. (tt, tt, omega (arith, one.fewer)); keeps = tt; rests = λ finite. tt })

pub returns-in-Err-clause-gives : goal.returns-in-Err-clause-gives
returns-in-Err-clause-gives g c =
    let h = c.in-Err.ensures in
    let s = c.self.inside in
    let going : s.ended ≡ false = rw (← c.self.view_is) at c.requires.going in
    rw (← c.self.view_is, going) (one_failed h.lawful s.start s.len s.cursor c.read_item_if.new.cursor c.read_item_if.new.cursor s.count s.passed s.is_strict c.in-Err.fault c.behind.result (rw (← c.self.view_is) at c.requires.more) h.reads (rw (c.new.ensures.error, c.len.ensures) at c.behind.ensures.moved))

use Rattle.std.proofs.Common.{◌≡◌, ℕ, ◌+◌, ◌<◌, ◌%◌, ◌^◌, false, arith}
use Rattle.wasm_lists.proofs.ItemReadingLaws.{next_counted, not_last, one_read}
use Rattle.wasm_lists.proofs.item_reader.ItemReader.read_next.Goals as goal

unwrapped : (n : ℕ) → n < 2 ^ 32 → n % 4294967296 ≡ n
unwrapped n lt = omega (arith, lt)

pub invariant_of-self : goal.invariant_of-self
invariant_of-self g c =
    let s = c.self.inside in
    let law = c.is_lawful.ensures in
    let some = not_last s.count s.passed s.cursor.left c.self.invariant.3 (rw (← c.self.view_is) at c.requires.more) in
    let one = one_read law.lawful law.some s.start s.len s.cursor c.read.new.cursor s.count s.passed ((s.passed + 1) % 4294967296) s.is_strict (g.T.Readable.view c.in-Ok.item) c.fork-before.ensures.bytes c.self.invariant.1 some (λ lt. unwrapped (s.passed + 1) lt) c.self.invariant.0 c.in-Ok.ensures.reads (c.was_minimal_if.ensures c.if-was_minimal_if.true) in
    (c.was_minimal_if.ensures c.if-was_minimal_if.true, omega (arith, one.fewer, c.self.invariant.1), c.self.invariant.2, next_counted s.count s.passed ((s.passed + 1) % 4294967296) some (λ lt. unwrapped (s.passed + 1) lt))

pub returns-in-Ok-clause-gives : goal.returns-in-Ok-clause-gives
returns-in-Ok-clause-gives g c =
    let s = c.self.inside in
    let law = c.is_lawful.ensures in
    let some = not_last s.count s.passed s.cursor.left c.self.invariant.3 (rw (← c.self.view_is) at c.requires.more) in
    let one = one_read law.lawful law.some s.start s.len s.cursor c.read.new.cursor s.count s.passed ((s.passed + 1) % 4294967296) s.is_strict (g.T.Readable.view c.in-Ok.item) c.fork-before.ensures.bytes c.self.invariant.1 some (λ lt. unwrapped (s.passed + 1) lt) c.self.invariant.0 c.in-Ok.ensures.reads (c.was_minimal_if.ensures c.if-was_minimal_if.true) in
    let going : s.ended ≡ false = rw (← c.self.view_is) at c.requires.going in
    rw (← c.self.view_is, c.len.ensures, going) one.gives

pub returns-in-Ok-clause-goes : goal.returns-in-Ok-clause-goes
returns-in-Ok-clause-goes g c =
    let s = c.self.inside in
    let law = c.is_lawful.ensures in
    let some = not_last s.count s.passed s.cursor.left c.self.invariant.3 (rw (← c.self.view_is) at c.requires.more) in
    let one = one_read law.lawful law.some s.start s.len s.cursor c.read.new.cursor s.count s.passed ((s.passed + 1) % 4294967296) s.is_strict (g.T.Readable.view c.in-Ok.item) c.fork-before.ensures.bytes c.self.invariant.1 some (λ lt. unwrapped (s.passed + 1) lt) c.self.invariant.0 c.in-Ok.ensures.reads (c.was_minimal_if.ensures c.if-was_minimal_if.true) in
    let going : s.ended ≡ false = rw (← c.self.view_is) at c.requires.going in
    rw (← c.self.view_is, going) (record { on = λ finite. (tt, tt, omega (arith, one.fewer)); keeps = tt; rests = λ finite. tt })

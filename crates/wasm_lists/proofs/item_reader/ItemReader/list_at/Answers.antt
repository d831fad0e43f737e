use Rattle.std.proofs.Common.{rules, Some, Err, false, length, refl, subst, arith}
use Rattle.wasm_codec.specs.Places.{Place, Reads}
use Rattle.wasm_codec.specs.formats.Combinators.{minimal_if, u32}
use Rattle.wasm_lists.proofs.ItemReadingLaws.{count_missing, count_read, gives_list, reading_of}
use Rattle.wasm_lists.proofs.item_reader.ItemReader.list_at.Goals as goal

pub invariant_of-result : goal.invariant_of-result
invariant_of-result g c =
    let h = c.in-Ok.ensures in
    let one = count_read c.args.is_strict c.args.bytes.now c.read_count.new.cursor c.in-Ok.count (rw c.new-cursor.ensures at h.bytes) (rw c.new-cursor.ensures at h.reads) in
    (h.passed, one.shorter, search rules, (omega arith, one.small))

pub returns-in-Ok-clause-gives : goal.returns-in-Ok-clause-gives
returns-in-Ok-clause-gives g c =
    let h = c.in-Ok.ensures in
    let bytes = c.args.bytes.now in
    let next = c.read_count.new.cursor in
    let fits = rw c.new-cursor.ensures at h.bytes in
    let one = count_read c.args.is_strict bytes next c.in-Ok.count fits (rw c.new-cursor.ensures at h.reads) in
    let lawful = c.is_lawful.ensures in
    gives_list g.T.Readable.view g.T.Readable.format lawful.lawful lawful.some c.args.start bytes (reading_of c.args.start (length bytes) next (Some c.in-Ok.count) 0 c.args.is_strict false) c.in-Ok.count fits one.found (search rules) (omega (arith, one.shorter)) refl

pub returns-in-Err-clause-refused : goal.returns-in-Err-clause-refused
returns-in-Err-clause-refused g c =
    let h = c.in-Err.ensures in
    count_missing c.is_lawful.ensures.lawful c.args.is_strict c.args.bytes.now c.read_count.new.cursor c.in-Err.fault c.behind.result (rw c.new-cursor.ensures at h.bytes) (subst (λ (p : Place). Reads (minimal_if c.args.is_strict u32).at p c.read_count.new.cursor (Err c.in-Err.fault)) c.new-cursor.ensures h.reads) c.args.start (rw c.new.ensures.error at c.behind.ensures.moved)

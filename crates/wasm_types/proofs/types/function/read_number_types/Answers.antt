use Rattle.std.proofs.Common.{◌≡◌, take, take_all, get_or, arith}
use Rattle.std.proofs.lemmas.List.{take_more}
use Rattle.wasm_types.proofs.ShortTypes.{one_more, list_read}
use Rattle.wasm_types.proofs.types.function.read_number_types.Goals as goal

pub loop-byte-preserved : goal.loop-byte-preserved
loop-byte-preserved c =
    let bytes = c.in-Some.bytes.now in
    let i = c.loop-byte.byte-index in
    let h = c.push_reserved.ensures in
    rw (take_more bytes i 0 (omega arith), h.items) (record {
      read = one_more (take i bytes) c.loop-byte.types.items (get_or bytes i 0) c.number_type.result c.loop-byte.invariant.read c.number_type.ensures;
      len = omega (arith, h.len, c.loop-byte.invariant.len);
      room = omega (arith, h.capacity, c.loop-byte.invariant.room);
    })

pub returns : goal.returns
returns c =
    let bytes = c.in-Some.bytes.now in
    let all : take c.loop-byte.byte-index bytes ≡ bytes = take_all c.loop-byte.byte-index bytes (omega arith) in
    rw c.from.ensures (list_read c.args.cursor.now c.short_sized.new.self bytes c.loop-byte.types.items c.in-Some.ensures (rw all at c.loop-byte.invariant.read))

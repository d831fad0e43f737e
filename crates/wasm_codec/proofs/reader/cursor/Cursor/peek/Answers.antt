use Rattle.std.proofs.Common.{◌+◌, ◌<◌, length, drop, ap, ◌∙◌, sym, arith}
use Rattle.std.proofs.lemmas.List.{drop_more}
use Rattle.wasm_codec.specs.Places.{place, byte_at, byte_from}
use Rattle.wasm_codec.proofs.reader.cursor.Cursor.peek.Goals as goal

pub returns : goal.returns
unfolding byte_at
returns c =
    let lt : c.self.inside.position < length c.self.inside.bytes.now = omega arith in
    let more = drop_more c.self.inside.bytes.now c.self.inside.position 0 lt in
    record {
      sees = (place c.self.inside.minimal (drop (c.self.inside.position + 1) c.self.inside.bytes.now), ap byte_at (sym c.self.view_is) ∙ ap (byte_from c.self.inside.minimal) more);
      err = tt;
    }

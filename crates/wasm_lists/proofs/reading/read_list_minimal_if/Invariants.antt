use Rattle.std.proofs.Common.{◌≡◌, length}
use Rattle.wasm_codec.specs.Lawful.{plain}
use Rattle.wasm_codec.specs.Places.{WasMinimalIf}
use Rattle.wasm_codec.specs.formats.Combinators.{minimal_if, u32}
use Rattle.wasm_codec.proofs.ListLaws.{Gone}
use Rattle.wasm_codec.proofs.PlaceLists.{Passed}
use Rattle.wasm_codec.proofs.MinimalIfLaws.{flag}
use Rattle.wasm_lists.proofs.reading.read_list_minimal_if.Given as goal

abbrev pub invariant-loop-index : goal.invariant-loop-index
invariant-loop-index g l = record {
  passed : Passed (minimal_if (flag g.row.STRICT) u32).at (minimal_if (flag g.row.STRICT) g.T.Readable.format) l.fn.cursor l.cursor l.count l.index (g.T.Readable.views l.items.items);
  gone : Gone (minimal_if (flag g.row.STRICT) u32).Encodes (plain (minimal_if (flag g.row.STRICT) u32).at) (minimal_if (flag g.row.STRICT) g.T.Readable.format).Encodes (plain (minimal_if (flag g.row.STRICT) g.T.Readable.format).at) l.fn.cursor.left l.cursor.left l.count l.index (g.T.Readable.views l.items.items);
  len : length l.items.items ≡ l.index;
  minimal_if : WasMinimalIf (flag g.row.STRICT) l.cursor;
}

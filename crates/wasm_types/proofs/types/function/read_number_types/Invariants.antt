use Rattle.std.proofs.Common.{◌≡◌, ◌≤◌, length, take, vec_len, vec_capacity}
use Rattle.wasm_types.proofs.ShortTypes.{AreTypes}
use Rattle.wasm_types.proofs.types.function.read_number_types.Given as goal

abbrev pub invariant-loop-byte : goal.invariant-loop-byte
invariant-loop-byte l = record {
  read : AreTypes (take l.byte-index l.bytes) l.types.items;
  len : vec_len l.types ≡ l.byte-index;
  room : length l.bytes ≤ vec_capacity l.types;
}

-- The bytes read so far are at the start of the list.
use Rattle.std.proofs.Common.{◌≤◌, vec_len, take}
use Rattle.std.specs.Io.KnownBytes.{Consumes}
use Rattle.wasmnorm.proofs.streams.read_all.Given as goal

abbrev pub invariant-loop : goal.invariant-loop
invariant-loop g l = record {
  within : l.filled ≤ vec_len l.bytes;
  prefix : Consumes (g.R.Read.remaining l.fn.reader) (g.R.Read.remaining l.reader) (take l.filled l.bytes.items);
}

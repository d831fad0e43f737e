-- The bytes that were read stay in front of the zeros.
use Rattle.std.proofs.Common.{◌≡◌, ◌≤◌, ◌-◌, take, vec_len}
use Rattle.wasmnorm.proofs.streams.make_room.Given as goal

abbrev pub invariant-loop-bytes : goal.invariant-loop-bytes
invariant-loop-bytes l = record {
  within : l.filled ≤ vec_len l.bytes;
  front : take l.filled l.bytes.items ≡ take l.filled l.fn.bytes.items;
}

abbrev pub decreases-loop-bytes : goal.decreases-loop-bytes
decreases-loop-bytes l = l.end - vec_len l.bytes

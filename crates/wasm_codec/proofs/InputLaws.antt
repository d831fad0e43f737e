-- An input takes the value that a cursor reads, or that a rewriter gives.
use Rattle.std.proofs.Common.{◌≡◌, [], true, false, Some, Result, Ok, Err, refl}
use Rattle.wasm_codec.specs.declared.reader.cursor.Fault.{Fault}
use Rattle.wasm_codec.specs.declared.reader.cursor.Fault.TheVariants as faults
use Rattle.wasm_codec.specs.Inputs.{Took, Takes}
use Rattle.wasm_codec.specs.Places.{Place, Reads}
use Rattle.wasm_codec.specs.Rewriter.{Rewriting, rewriting, rewritten_at, rewriting_after, no_rest}
use Rattle.wasm_codec.specs.formats.Combinators.{Format}

-- a cursor reads it
pub cursor_reads : {V : Type 0} (F : Format V) (p q : Place) (r : Result V Fault) → Takes false F (rewriting [] p no_rest) (rewriting [] q no_rest) r → Reads F.at p q r
cursor_reads F p q (Ok v) took = took.read
cursor_reads F p q (Err (faults.Malformed m)) none = none
cursor_reads F p q (Err faults.Memory) never = absurd never

-- a rewriter gives it
pub rewriter_gives : {V : Type 0} (F : Format V) (old new : Rewriting) (v : V) → Took true F old new v → rewritten_at F old ≡ Some (v, new)
rewriter_gives F old new v took = rw (took.read, ← took.written, ← took.rest) refl

pub rewriter_passes : {V : Type 0} (F : Format V) (old new : Rewriting) (v : V) → Took true F old new v → rewriting_after F old ≡ Some new
rewriter_passes F old new v took = rw (took.read, ← took.written, ← took.rest) refl

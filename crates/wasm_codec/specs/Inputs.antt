-- The values that a production takes from its input. A cursor reads; a rewriter also writes minimal encodings in place.
-- Contracts see both as rewritings: a cursor writes nothing.
use Rattle.std.specs.Prelude.{◌≡◌, ℕ, Bool, true, false, List, [], ◌++◌, Option, Some, None, Result, Ok, Err}
use Rattle.wasm_codec.specs.declared.reader.cursor.Fault.{Fault}
use Rattle.wasm_codec.specs.declared.reader.cursor.Fault.TheVariants as faults
use Rattle.wasm_codec.specs.Reading.{◌>>=◌}
use Rattle.wasm_codec.specs.Places.{place}
use Rattle.wasm_codec.specs.Rewriter.{Rewriting, rewriting, without, with_byte}
use Rattle.wasm_codec.specs.formats.Combinators.{Format}

-- Holds of an input that writes.
abbrev pub IfWrites : Bool → Type 0 → Type 0
IfWrites true P = P
IfWrites false P = Unit {0}

-- Holds of an input that only reads.
abbrev pub IfReads : Bool → Type 0 → Type 0
IfReads true P = Unit {0}
IfReads false P = P

-- The bytes, if the input writes what it reads.
abbrev pub wrote : Bool → List ℕ → List ℕ
wrote true bytes = bytes
wrote false bytes = []

-- ---- values that each input returns

-- A value was read, and its minimal encoding written if the input writes.
pub record Took {V : Type 0} (writes : Bool) (F : Format V) (old new : Rewriting) (v : V) : Type 0 where
  pub read : F.at old.place ≡ Some (v, new.place)
  pub written : new.done ≡ old.done ++ wrote writes (F.bytes v)
  pub rest : new.rest ≡ old.rest

-- The call takes a value, or fails with `Malformed` if there is none; it needs no memory.
abbrev pub Takes : {V : Type 0} → Bool → Format V → Rewriting → Rewriting → Result V Fault → Type 0
Takes writes F old new (Ok v) = Took writes F old new v
Takes writes F old new (Err (faults.Malformed m)) = F.at old.place ≡ None
Takes writes F old new (Err faults.Memory) = ⊥

-- ---- values that only a reading input returns

-- The rewriting after the value at its place, or none if the format reads no value there.
abbrev pub passed_at : {V : Type 0} → Bool → Format V → Rewriting → Option Rewriting
passed_at writes F r = F.at r.place >>= λ x. Some (rewriting (r.done ++ wrote writes (F.bytes x.0)) x.1 r.rest)

-- A value was passed, and its minimal encoding written if the input writes. If it only reads, the result is the value.
pub record Passed {X V : Type 0} (writes : Bool) (view : X → V) (F : Format V) (old new : Rewriting) (x : X) : Type 0 where
  pub passed : passed_at writes F old ≡ Some new
  pub read : IfReads writes (F.at old.place ≡ Some (view x, new.place))

-- The call passes a value, or fails with `Malformed` if there is none; it needs no memory if the input writes.
abbrev pub Passes : {X V : Type 0} → Bool → (X → V) → Format V → Rewriting → Rewriting → Result X Fault → Type 0
Passes writes view F old new (Ok x) = Passed writes view F old new x
Passes writes view F old new (Err (faults.Malformed m)) = F.at old.place ≡ None
Passes writes view F old new (Err faults.Memory) = IfWrites writes ⊥

-- ---- what was written

-- The rewriting after it takes out this number of bytes at a mark. A cursor only notes that its bytes aren't minimal.
abbrev pub left_out : Bool → ℕ → ℕ → Rewriting → Rewriting
left_out true mark count r = without mark count r
left_out false mark count r = rewriting r.done (place false r.place.left) r.rest

-- The rewriting with another byte at a mark. A cursor stays as it is.
abbrev pub overwritten : Bool → ℕ → ℕ → Rewriting → Rewriting
overwritten true mark byte r = with_byte mark byte r
overwritten false mark byte r = r

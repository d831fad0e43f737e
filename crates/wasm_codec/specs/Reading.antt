-- Plain reading functions: the value that a prefix of the bytes encodes, and the bytes after it, or none. Unlike those
-- on places (Places.antt), they don't tell whether encodings were minimal.
use Rattle.std.specs.Prelude.{◌≡◌, ℕ, zero, suc, List, [], ◌∷◌, ◌++◌, Option, Some, None, Result, Ok, Err}
use Rattle.wasm_codec.specs.formats.Grammar.{Grammar, IsBytes}
use Rattle.wasm_codec.specs.declared.reader.cursor.Fault.{Fault}
use Rattle.wasm_codec.specs.declared.reader.cursor.Fault.TheVariants as faults

-- A plain reading function: a value and the bytes after it, or none.
abbrev pub PlainReader : Type 0 → Type 0
PlainReader V = List ℕ → Option (V × List ℕ)

infixl 10 ◌>>=◌
abbrev pub ◌>>=◌ : {A B : Type 0} → Option A → (A → Option B) → Option B
(Some x) >>= f = f x
None >>= f = None

-- The same result, with the value as `view` sees it.
abbrev pub map_ok : {X V : Type 0} → (X → V) → Result X Fault → Result V Fault
map_ok view (Ok x) = Ok (view x)
map_ok view (Err e) = Err e

-- The call reads a value and leaves the bytes after it, or fails with `Malformed` if there is none.
abbrev pub ReadsPlain : {V : Type 0} → PlainReader V → List ℕ → List ℕ → Result V Fault → Type 0
ReadsPlain read old new (Ok v) = read old ≡ Some (v, new)
ReadsPlain read old new (Err (faults.Malformed m)) = read old ≡ None
ReadsPlain read old new (Err faults.Memory) = Unit {0}

-- Reads one byte.
abbrev pub plain_byte_at : PlainReader ℕ
plain_byte_at [] = None
plain_byte_at (b ∷ bytes) = Some (b, bytes)

-- Reads this number of values.
unfoldable pub plain_times_at : {A : Type 0} → PlainReader A → ℕ → PlainReader (List A)
plain_times_at read zero bytes = Some ([], bytes)
plain_times_at read (suc n) bytes = do
  v ← read bytes
  vs ← plain_times_at read n v.1
  Some (v.0 ∷ vs.0, vs.1)

-- Reads a count, then as many values.
abbrev pub plain_counted_at : {A : Type 0} → PlainReader ℕ → PlainReader A → PlainReader (List A)
plain_counted_at count read bytes = do
  n ← count bytes
  plain_times_at read n.0 n.1

-- ---- the values that they find

-- A prefix of the bytes encodes the value, and these are the bytes after it.
pub record BeginsWith {V : Type 0} (G : Grammar V) (bytes : List ℕ) (v : V) (rest : List ℕ) : Type 0 where
  pub prefix : List ℕ
  pub encodes : G prefix v
  pub parts : bytes ≡ prefix ++ rest

-- The reading function finds what bytes encode by the grammar, and nothing else.
pub record IsReadBy {V : Type 0} (G : Grammar V) (read : PlainReader V) : Type 0 where
  pub sound : (bytes : List ℕ) (v : V) (rest : List ℕ) → IsBytes bytes → read bytes ≡ Some (v, rest) → BeginsWith G bytes v rest
  pub complete : (prefix : List ℕ) (v : V) (rest : List ℕ) → G prefix v → read (prefix ++ rest) ≡ Some (v, rest)

-- The reading function finds at these bytes exactly what a prefix of them encodes.
pub record FindsAt {V : Type 0} (G : Grammar V) (read : PlainReader V) (bytes : List ℕ) : Type 0 where
  pub sound : (v : V) (rest : List ℕ) → read bytes ≡ Some (v, rest) → BeginsWith G bytes v rest
  pub complete : (v : V) (rest : List ℕ) → BeginsWith G bytes v rest → read bytes ≡ Some (v, rest)

-- ---- the values that items stand for

-- The view of a list is the list of its items' views.
pub record ViewsEach {X V : Type 0} (view : X → V) (views : List X → List V) : Type 0 where
  pub none : views [] ≡ []
  pub more : (xs : List X) (x : X) → views (xs ++ x ∷ []) ≡ views xs ++ view x ∷ []

-- A text in a buffer, cut to the buffer's length and ended by NUL.
use Rattle.std.specs.Prelude.{◌≡◌, ℕ, ◌<◌, ◌≤◌, ◌-◌, List, ◌++◌, length, take, drop, set}

-- The buffer with the first `count` bytes of the text, then a NUL, at its start. Its other bytes are unchanged.
abbrev pub ends_at : ℕ → List ℕ → List ℕ → List ℕ
ends_at count text old = set (take count text ++ drop count old) count 0

-- The buffer `old`, which becomes `new`, holds the text, cut so that the NUL fits too. An empty buffer holds nothing.
pub record HoldsText (text old new : List ℕ) : Type 0 where
  pub whole : length text < length old → new ≡ ends_at (length text) text old
  pub cut : length old ≤ length text → 0 < length old → new ≡ ends_at (length old - 1) text old
  pub none : length old ≡ 0 → new ≡ old

-- The buffer holds a text of this length.
pub record HoldsTextOf (count : ℕ) (old new : List ℕ) : Type 0 where
  pub text : List ℕ
  pub len : length text ≡ count
  pub held : HoldsText text old new

-- The bytes of lists, and the reasons why a value can't be written.
use Rattle.std.specs.Prelude.{◌≡◌, ℕ, ◌^◌, ◌≤◌, ◌<◌, ◌⊎◌, List, [], ◌∷◌, ◌++◌, length, Option, Some, None, nat_lt, if◌then◌else◌}
use Rattle.std.specs.List.{All, Any}
use Rattle.wasm_codec.specs.declared.encode.EncodeError.{EncodeError}
use Rattle.wasm_codec.specs.declared.encode.EncodeError.TheVariants.{Memory, TooLong}
use Rattle.wasm_codec.specs.Leb128.{unsigned_leb128}
use Rattle.wasm_codec.specs.formats.Grammar.{Grammar}

-- The number of the bytes, then the bytes (Lists).
abbrev pub byte_list_bytes : List ℕ → List ℕ
byte_list_bytes bytes = unsigned_leb128 (length bytes) ++ bytes

-- 0 for `None`, or 1 and the bytes of the value.
abbrev pub option_bytes : {T : Type 0} → (T → List ℕ) → Option T → List ℕ
option_bytes encoding None = 0 ∷ []
option_bytes encoding (Some x) = 1 ∷ encoding x

-- The number fits in a u32.
abbrev pub IsCount : ℕ → Type 0
IsCount n = n < 2 ^ 32

-- `TooLong`, before anything is appended, if the number doesn't fit in a u32.
abbrev pub too_long_at_once : ℕ → Option EncodeError
too_long_at_once n = if nat_lt n (2 ^ 32) then None else Some TooLong

-- The error is `TooLong`, and the number doesn't fit in a u32.
abbrev pub IsTooLong : ℕ → EncodeError → Type 0
IsTooLong n e = (e ≡ TooLong) × (2 ^ 32 ≤ n)

-- The only error besides `Memory` is `TooLong`.
abbrev pub OnlyTooLong : {T : Type 0} → T → EncodeError → Type 0
OnlyTooLong x e = e ≡ TooLong

-- Memory ran out, or the list has more items than a u32 counts.
abbrev pub IsCountRefusal : ℕ → EncodeError → Type 0
IsCountRefusal n e = (e ≡ Memory) ⊎ IsTooLong n e

module _ {T : Type 0} (Can : T → Type 0) (refuses : T → EncodeError → Type 0) where
  -- The value can't be written, and this is the error that its type names for it.
  abbrev pub Refuses : T → EncodeError → Type 0
  Refuses x e = (Can x → ⊥) × refuses x e

  -- Memory ran out, or the value can't be written.
  abbrev pub IsRefusal : T → EncodeError → Type 0
  IsRefusal x e = (e ≡ Memory) ⊎ Refuses x e

  -- Memory ran out, the list has too many items, or one of them can't be written.
  abbrev pub IsListRefusal : List T → EncodeError → Type 0
  IsListRefusal xs e = (e ≡ Memory) ⊎ (IsTooLong (length xs) e ⊎ Any (λ x. Refuses x e) xs)

-- A u32 counts the items, and each of them can be written.
abbrev pub CanEncodeList : {T : Type 0} → (T → Type 0) → List T → Type 0
CanEncodeList Can xs = IsCount (length xs) × All Can xs

-- The bytes are this encoding, or they are longer.
abbrev pub IsMinimalOrLonger : List ℕ → List ℕ → Type 0
IsMinimalOrLonger bytes encoding = (bytes ≡ encoding) ⊎ (length encoding < length bytes)

-- The written bytes encode the value, and every other encoding of it is longer.
pub record IsMinimal {V : Type 0} (G : Grammar V) (encoding : V → List ℕ) (v : V) : Type 0 where
  pub encodes : G (encoding v) v
  pub least : (bytes : List ℕ) → G bytes v → IsMinimalOrLonger bytes (encoding v)

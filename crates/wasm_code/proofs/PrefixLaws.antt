-- Bytes that encode a value are a prefix that decodes, and so is the empty list.
use Rattle.std.proofs.Common.{◌≡◌, ℕ, ◌⊎◌, inl, inr, List, [], length, refl, sym, ap, arith}
use Rattle.std.proofs.lemmas.List.{append-nil, length-append}
use Rattle.wasm_codec.specs.formats.Combinators.{Format}
use Rattle.wasm_codec.specs.formats.Grammar.{Grammar, Joined, Counted}
use Rattle.wasm_codec.specs.Lists.{IsCountedPrefix}
use Rattle.wasm_codec.specs.Outcomes.{EncodesSome, IsLongestPrefix, IsNormalForm}
use Rattle.wasm_code.specs.DecodedPrefixes.{ArePrefixes}

-- a whole list is a count and as many items
pub counted_prefixes : {A : Type 0} (Count : Grammar ℕ) (G : Grammar A) → ArePrefixes (Counted Count G) (IsCountedPrefix Count G)
counted_prefixes {A} Count G = record {
  empty = inl refl;
  whole = by;
} where
  by : (bytes : List ℕ) (items : List A) → Counted Count G bytes items → IsCountedPrefix Count G bytes
  by bytes items (prefix, back, parts, counted, encoded) = inr (record {
    count = length items;
    items = items;
    head = prefix;
    back = back;
    parts = parts;
    counted = counted;
    few = omega arith;
    encoded = encoded;
  })

-- no items are the items of no bytes
pub joined_prefixes : {A : Type 0} (G : Grammar A) → ArePrefixes (Joined G) (EncodesSome (Joined G))
joined_prefixes G = record {
  empty = ([], refl);
  whole = λ bytes items encoded. (items, encoded);
}

-- nothing, or an encoding
pub nothing_or : {V : Type 0} (G : Grammar V) → ArePrefixes G (λ prefix. (prefix ≡ []) ⊎ EncodesSome G prefix)
nothing_or G = record {
  empty = inl refl;
  whole = λ bytes value encoded. inr (value, encoded);
}

-- all of the bytes are their longest prefix, if they encode a value
pub read_is_longest : {V : Type 0} (G : Grammar V) (IsPrefix : List ℕ → Type 0) (bytes : List ℕ) (value : V) (len : ℕ) → ArePrefixes G IsPrefix → G bytes value → len ≡ length bytes → IsLongestPrefix IsPrefix bytes len
read_is_longest G IsPrefix bytes value len are encoded is = record {
  prefix = bytes;
  rest = [];
  parts = sym (append-nil bytes);
  len_is = sym is;
  whole = are.whole bytes value encoded;
  longest = λ other after parts whole. omega (arith, is, ap (length {A = ℕ}) parts, length-append other after);
}

pub rewritten_is_longest : {V : Type 0} (F : Format V) (IsPrefix : List ℕ → Type 0) (bytes encoding : List ℕ) (len : ℕ) → ArePrefixes F.Encodes IsPrefix → IsNormalForm F.Encodes F.bytes bytes encoding → len ≡ length bytes → IsLongestPrefix IsPrefix bytes len
rewritten_is_longest F IsPrefix bytes encoding len are normal is = read_is_longest F.Encodes IsPrefix bytes normal.value len are normal.encoded is

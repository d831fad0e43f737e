-- Formats, each stated once. Only `Encodes` must be believed: which bytes encode which value. The other fields are
-- proved against it: what code reads at a place, what it writes, which values have an encoding, and which byte may be
-- first.
use Rattle.std.specs.Prelude.{◌≡◌, ℕ, zero, suc, ◌+◌, ◌*◌, ◌/◌, ◌%◌, ◌^◌, ◌<◌, ◌⊎◌, Bool, true, false, not, ◌||◌, ◌==◌, nat_lt, nat_le, List, [], ◌∷◌, ◌++◌, length, Option, Some, None, if◌then◌else◌, ℤ, pos, IsSomeAnd, is_some}
use Rattle.std.specs.List.{flat_map, AllByRecursion}
use Rattle.wasm_codec.specs.formats.Grammar.{Grammar, IsBytes, AByte, Then, Mapped, Nothing, Never, Either, After, Joined, Counted}
use Rattle.wasm_codec.specs.Reading.{◌>>=◌}
use Rattle.wasm_codec.specs.Places.{Place, place, Reader, byte_at, then_at, map_at, map_unless, nothing_at, never_at, either_at, by_byte, only_at, counted_at, u32_at, u64_at, s32_at, s64_at, index_at, raw_at}
use Rattle.wasm_codec.specs.formats.Numbers.{Within, EncodesU32, EncodesU64, EncodesS32, EncodesS64, EncodesIndex}
use Rattle.wasm_codec.specs.Leb128.{unsigned_leb128, signed_leb128}

-- A format: which bytes encode which value, how they are read and written, and which values have an encoding.
pub record Format (V : Type 0) : Type 1 where
  -- which bytes encode which value
  pub Encodes : Grammar V
  -- the value at a place, and the place after it
  pub at : Reader V
  -- the minimal encoding, which is the one that is written
  pub bytes : V → List ℕ
  -- the value has an encoding
  pub InRange : V → Type 0
  -- an encoding may begin with this byte, or be empty
  pub first : Option ℕ → Bool

-- ---- bytes

-- Any byte, but not none.
abbrev pub any_byte : Option ℕ → Bool
any_byte None = false
any_byte (Some b) = true

-- This byte alone.
abbrev pub just : ℕ → Option ℕ → Bool
just n None = false
just n (Some b) = b == n

-- One byte.
abbrev pub a_byte : Format ℕ
a_byte = record { Encodes = AByte; at = byte_at; bytes = λ b. b ∷ []; InRange = λ b. b < 256; first = any_byte }

-- No bytes, for this one value.
abbrev pub nothing : {A : Type 0} → A → Format A
nothing a = record { Encodes = Nothing a; at = nothing_at a; bytes = λ b. []; InRange = λ b. a ≡ b; first = λ b. true }

-- No encoding at all.
abbrev pub never : {A : Type 0} → Format A
never = record { Encodes = Never; at = never_at; bytes = λ a. []; InRange = λ a. ⊥; first = λ b. false }

-- Reads this byte, then the rest.
abbrev pub after_at : {A : Type 0} → ℕ → Reader A → Reader A
after_at n read = by_byte (λ b here after. if b == n then read after else None)

-- This byte, then the rest.
infixr 25 ◌▷◌
abbrev pub ◌▷◌ : {A : Type 0} → ℕ → Format A → Format A
n ▷ F = record { Encodes = After (n ∷ []) F.Encodes; at = after_at n F.at; bytes = λ v. n ∷ F.bytes v; InRange = F.InRange; first = just n }

-- ---- one after the other

-- The first bytes of a pair, whose first part may be empty.
abbrev pub first_of : (Option ℕ → Bool) → Option ℕ → Bool
first_of first b = first None || first b

-- One value after another; the second format depends on the first value.
infixr 25 ◌⊗>◌
abbrev pub ◌⊗>◌ : {A B : Type 0} → Format A → (A → Format B) → Format (A × B)
F ⊗> G = record {
  Encodes = Then F.Encodes (λ a. (G a).Encodes);
  at = then_at F.at (λ a. (G a).at);
  bytes = λ v. F.bytes v.0 ++ (G v.0).bytes v.1;
  InRange = λ v. F.InRange v.0 × (G v.0).InRange v.1;
  first = first_of F.first;
}

-- One value after another.
infixr 25 ◌⊗◌
abbrev pub ◌⊗◌ : {A B : Type 0} → Format A → Format B → Format (A × B)
F ⊗ G = F ⊗> (λ a. G)

-- ---- values made of other values

-- The bytes of the value, if there is one.
abbrev pub bytes_of : {A : Type 0} → (A → List ℕ) → Option A → List ℕ
bytes_of bytes None = []
bytes_of bytes (Some a) = bytes a

-- The encodings of a value, for what is made of it; the parts are those of what is made.
abbrev pub made : {A B : Type 0} → (A → B) → (B → Option A) → Format A → Format B
made make parts F = record {
  Encodes = Mapped make F.Encodes;
  at = map_at make F.at;
  bytes = λ b. bytes_of F.bytes (parts b);
  InRange = λ b. IsSomeAnd (parts b) (λ a. F.InRange a × (make a ≡ b));
  first = F.first;
}

-- The same for a value that is made in several ways: some are long forms, `bytes` are written, and values `InRange`
-- have some.
abbrev pub made_with_long_forms : {A B : Type 0} → (A → Bool) → (A → B) → (B → List ℕ) → (B → Type 0) → Format A → Format B
made_with_long_forms long make bytes InRange F = record { Encodes = Mapped make F.Encodes; at = map_unless long make F.at; bytes = bytes; InRange = InRange; first = F.first }

-- The same for values `InRange`, each of which has its parts.
abbrev pub made_of : {A B : Type 0} → (A → B) → (B → A) → (B → Type 0) → Format A → Format B
made_of make parts InRange F = record { Encodes = Mapped make F.Encodes; at = map_at make F.at; bytes = λ b. F.bytes (parts b); InRange = InRange; first = F.first }

-- ---- alternatives

-- The first property if the test holds, else the second.
abbrev pub either_range : Bool → Type 0 → Type 0 → Type 0
either_range true R S = R
either_range false R S = S

-- Alternatives: an encoding of any of them. No two begin with the same byte.
pub record Choice (V : Type 0) : Type 1 where
  pub Encodes : Grammar V
  -- reads what this first byte selects, from the places before and after it
  pub branch : ℕ → Place → Reader V
  pub bytes : V → List ℕ
  pub InRange : V → Type 0
  pub first : Option ℕ → Bool

-- One of the alternatives.
abbrev pub any_of : {A : Type 0} → Choice A → Format A
any_of C = record { Encodes = C.Encodes; at = by_byte (λ b. C.branch b); bytes = C.bytes; InRange = C.InRange; first = C.first }

-- The last alternative.
abbrev pub or_else : {A : Type 0} → Format A → Choice A
or_else F = record { Encodes = F.Encodes; branch = λ b here after. F.at here; bytes = F.bytes; InRange = F.InRange; first = F.first }

-- No further alternative.
abbrev pub no_other : {A : Type 0} → Choice A
no_other = or_else never

-- One more alternative; a value is written as this one if the test holds.
abbrev pub alternative : {A : Type 0} → (A → Bool) → Format A → (ℕ → Place → Reader A) → Choice A → Choice A
alternative wins F read C = record {
  Encodes = λ bytes v. F.Encodes bytes v ⊎ C.Encodes bytes v;
  branch = λ b here after. if F.first (Some b) then read b here after else C.branch b here after;
  bytes = λ v. if wins v then F.bytes v else C.bytes v;
  InRange = λ v. either_range (wins v) (F.InRange v) (C.InRange v);
  first = λ b. F.first b || C.first b;
}

-- One more alternative; a value is written as this one if the test holds.
abbrev pub either : {A : Type 0} → (A → Bool) → Format A → Choice A → Choice A
either wins F C = record {
  Encodes = λ bytes v. F.Encodes bytes v ⊎ C.Encodes bytes v;
  branch = λ b here after. if F.first (Some b) then F.at here else C.branch b here after;
  bytes = λ v. if wins v then F.bytes v else C.bytes v;
  InRange = λ v. either_range (wins v) (F.InRange v) (C.InRange v);
  first = λ b. F.first b || C.first b;
}

-- One more alternative: this byte, then the rest.
abbrev pub after : {A : Type 0} → (A → Bool) → ℕ → Format A → Choice A → Choice A
after wins n F C = record {
  Encodes = λ bytes v. (n ▷ F).Encodes bytes v ⊎ C.Encodes bytes v;
  branch = λ b here after. if b == n then F.at after else C.branch b here after;
  bytes = λ v. if wins v then n ∷ F.bytes v else C.bytes v;
  InRange = λ v. either_range (wins v) (F.InRange v) (C.InRange v);
  first = λ b. just n b || C.first b;
}

-- One more alternative; it is a long form unless the test holds, and the value is written as the others.
abbrev pub after_long : {A : Type 0} → (A → Bool) → ℕ → Format A → Choice A → Choice A
after_long wins n F C = record {
  Encodes = λ bytes v. (n ▷ F).Encodes bytes v ⊎ C.Encodes bytes v;
  branch = λ b here next. if b == n then map_unless (λ v. not (wins v)) (λ v. v) F.at next else C.branch b here next;
  bytes = λ v. if wins v then n ∷ F.bytes v else C.bytes v;
  InRange = λ v. either_range (wins v) (F.InRange v) (C.InRange v);
  first = λ b. just n b || C.first b;
}

-- One more alternative; each value has a byte of its own.
abbrev pub tagged : {A : Type 0} → (A → ℕ) → ℕ → Format A → Choice A → Choice A
tagged byte_of n F C = after (λ v. byte_of v == n) n F C

-- One more alternative, made of a value; a value with such parts is written so.
abbrev pub variant : {A B : Type 0} → (A → B) → (B → Option A) → Format A → Choice B → Choice B
variant make parts F C = either (λ b. is_some (parts b)) (made make parts F) C

-- One more alternative, made of a value after this byte; a value with such parts is written so.
abbrev pub variant_after : {A B : Type 0} → ℕ → (A → B) → (B → Option A) → Format A → Choice B → Choice B
variant_after n make parts F C = after (λ b. is_some (parts b)) n (made make parts F) C

-- This byte or not, then the rest.
abbrev pub flagged : {A : Type 0} → ℕ → Format A → Format (Bool × A)
flagged n F = any_of (after (λ p. p.0) n (made (λ a. (true, a)) (λ p. Some p.1) F) (or_else (made (λ a. (false, a)) (λ p. Some p.1) F)))

-- The pair, if there is a first value.
abbrev pub with_value : {A B : Type 0} → Option B → A → Option (B × A)
with_value None a = None
with_value (Some b) a = Some (b, a)

-- This byte and a value, or neither, then the rest.
abbrev pub optional : {A B : Type 0} → ℕ → Format B → Format A → Format (Option B × A)
optional n G F = any_of (after (λ p. is_some p.0) n (made (λ q. (Some q.0, q.1)) (λ p. with_value p.0 p.1) (G ⊗ F)) (or_else (made (λ a. (None, a)) (λ p. Some p.1) F)))

-- The first format if the test holds, else the second.
abbrev pub choose : {A : Type 0} → Bool → Format A → Format A → Format A
choose test F G = record {
  Encodes = Either test F.Encodes G.Encodes;
  at = either_at test F.at G.at;
  bytes = λ v. if test then F.bytes v else G.bytes v;
  InRange = λ v. either_range test (F.InRange v) (G.InRange v);
  first = λ b. if test then F.first b else G.first b;
}

-- ---- one byte, that of the value

-- The byte is this one.
abbrev pub is_byte : ℕ → Option ℕ → Bool
is_byte b None = false
is_byte b (Some c) = b == c

-- The value that has this byte.
abbrev pub find : {A : Type 0} → (A → Option ℕ) → List A → ℕ → Option A
find byte_of [] b = None
find byte_of (v ∷ values) b = if is_byte b (byte_of v) then Some v else find byte_of values b

-- The byte belongs to one of these values.
abbrev pub first_among : {A : Type 0} → (A → Option ℕ) → List A → Option ℕ → Bool
first_among byte_of values None = false
first_among byte_of values (Some b) = is_some (find byte_of values b)

-- One byte, which belongs to the value; code that reads it looks among these values.
abbrev pub one_byte : {A : Type 0} → (A → Option ℕ) → List A → Format A
one_byte byte_of values = record {
  Encodes = λ bytes v. (b : ℕ) × (byte_of v ≡ Some b) × (bytes ≡ b ∷ []);
  at = by_byte (λ b here after. only_at (find byte_of values b) after);
  bytes = λ v. bytes_of (λ b. b ∷ []) (byte_of v);
  InRange = λ v. is_some (byte_of v) ≡ true;
  first = first_among byte_of values;
}

-- One more alternative: one byte, if the value has one.
abbrev pub byte_or : {A : Type 0} → (A → Option ℕ) → List A → Choice A → Choice A
byte_or byte_of values C = either (λ v. is_some (byte_of v)) (one_byte byte_of values) C

-- ---- numbers

-- An unsigned number of 32 bits.
abbrev pub u32 : Format ℕ
u32 = record { Encodes = EncodesU32; at = u32_at; bytes = unsigned_leb128; InRange = λ n. n < 2 ^ 32; first = any_byte }

-- An unsigned number of 64 bits.
abbrev pub u64 : Format ℕ
u64 = record { Encodes = EncodesU64; at = u64_at; bytes = unsigned_leb128; InRange = λ n. n < 2 ^ 64; first = any_byte }

-- A signed number of 32 bits.
abbrev pub s32 : Format ℤ
s32 = record { Encodes = EncodesS32; at = s32_at; bytes = signed_leb128; InRange = Within (2 ^ 31); first = any_byte }

-- A signed number of 64 bits.
abbrev pub s64 : Format ℤ
s64 = record { Encodes = EncodesS64; at = s64_at; bytes = signed_leb128; InRange = Within (2 ^ 63); first = any_byte }

-- A byte that isn't that of a type.
abbrev pub begins_index : Option ℕ → Bool
begins_index None = false
begins_index (Some b) = nat_lt b 0x40 || nat_le 0x80 b

-- An index in the place of a negative type code.
abbrev pub index : Format ℕ
index = record { Encodes = EncodesIndex; at = index_at; bytes = λ n. signed_leb128 (pos n); InRange = λ n. n < 2 ^ 32; first = begins_index }

-- ---- raw bytes

-- One byte for which the test holds.
abbrev pub byte_where : (ℕ → Bool) → Format ℕ
byte_where test = record {
  Encodes = λ bytes b. (bytes ≡ b ∷ []) × (b < 256) × (test b ≡ true);
  at = by_byte (λ b here after. if test b then Some (b, after) else None);
  bytes = λ b. b ∷ [];
  InRange = λ b. (b < 256) × (test b ≡ true);
  first = λ o. elim o [ None ↦ false | Some b ↦ test b ];
}

-- Any byte, or none.
abbrev pub anything : Option ℕ → Bool
anything b = true

-- This number of bytes.
abbrev pub AreRaw : ℕ → List ℕ → Type 0
AreRaw count bytes = (length bytes ≡ count) × IsBytes bytes

-- This number of bytes, which are the value.
abbrev pub raw : ℕ → Format (List ℕ)
raw count = record { Encodes = λ bytes v. (bytes ≡ v) × AreRaw count v; at = raw_at count; bytes = λ v. v; InRange = AreRaw count; first = anything }

-- The number with this low byte and these higher ones.
abbrev pub with_low : ℕ × ℕ → ℕ
with_low p = p.0 + 256 * p.1

-- The low byte of a number, and the higher ones as a number.
abbrev pub low_and_high : ℕ → ℕ × ℕ
low_and_high n = (n % 256, n / 256)

-- A number in this number of bytes, the least first.
unfoldable pub little_endian : ℕ → Format ℕ
little_endian zero = made_of (λ n. n) (λ n. 0) (λ n. n < 256 ^ 0) (nothing 0)
little_endian (suc more) = made_of with_low low_and_high (λ n. n < 256 ^ suc more) (a_byte ⊗ little_endian more)

-- ---- lists

-- A count, then as many encodings.
abbrev pub items : {A : Type 0} → Format A → Format (List A)
items F = record {
  Encodes = Counted EncodesU32 F.Encodes;
  at = counted_at u32_at F.at;
  bytes = λ vs. unsigned_leb128 (length vs) ++ flat_map F.bytes vs;
  InRange = λ vs. (length vs < 2 ^ 32) × AllByRecursion F.InRange vs;
  first = any_byte;
}

-- Encodings to the end, with nothing between.
abbrev pub AllOf : {A : Type 0} → Format A → Grammar (List A)
AllOf F = Joined F.Encodes

-- The minimal encodings of the values, with nothing between.
abbrev pub all_bytes : {A : Type 0} → Format A → List A → List ℕ
all_bytes F = flat_map F.bytes

-- ---- minimal encodings alone

-- The value, if everything read for it was minimally encoded.
abbrev pub only_minimal : {A : Type 0} → Bool → A × Place → Option (A × Place)
only_minimal s v = if v.1.minimal then Some (v.0, place s v.1.left) else None

-- The minimal encodings alone.
abbrev pub minimal_only : {A : Type 0} → Format A → Format A
minimal_only F = record {
  Encodes = λ bytes v. F.Encodes bytes v × (bytes ≡ F.bytes v);
  at = λ p. F.at (place true p.left) >>= λ v. only_minimal p.minimal v;
  bytes = F.bytes;
  InRange = F.InRange;
  first = F.first;
}

-- The minimal encodings alone if `strict`, else all.
abbrev pub minimal_if : {A : Type 0} → Bool → Format A → Format A
minimal_if true F = minimal_only F
minimal_if false F = F

-- ---- formats by kind

-- The format of this kind; no encoding if there is no kind.
abbrev pub by_kind : {K V : Type 0} → (K → Format V) → Option K → Format V
by_kind G None = never
by_kind G (Some k) = G k

-- Grammars: which bytes encode which value, and how encodings are put together.
use Rattle.std.specs.Prelude.{◌≡◌, ℕ, ◌<◌, Bool, true, false, List, [], ◌∷◌, ◌++◌, length, Option, Some, None}

-- A relation between bytes and the values that they encode.
abbrev pub Grammar : Type 0 → Type 1
Grammar V = List ℕ → V → Type 0

-- Each number is a byte.
abbrev pub IsBytes : List ℕ → Type 0
IsBytes [] = Unit {0}
IsBytes (b ∷ bytes) = (b < 256) × IsBytes bytes

-- One encoding after another; the second may depend on what the first encodes.
abbrev pub Then : {A B : Type 0} → Grammar A → (A → Grammar B) → Grammar (A × B)
Then G H bytes v = (prefix : List ℕ) × (back : List ℕ) × (bytes ≡ prefix ++ back) × G prefix v.0 × H v.0 back v.1

-- The encodings of a value, for what is made of it.
abbrev pub Mapped : {A B : Type 0} → (A → B) → Grammar A → Grammar B
Mapped make G bytes b = (a : _) × G bytes a × (make a ≡ b)

-- No bytes, for this one value.
abbrev pub Nothing : {A : Type 0} → A → Grammar A
Nothing a bytes b = (bytes ≡ []) × (a ≡ b)

-- No encoding at all.
abbrev pub Never : {A : Type 0} → Grammar A
Never bytes a = ⊥

-- The first grammar if the test holds, else the second.
abbrev pub Either : {A : Type 0} → Bool → Grammar A → Grammar A → Grammar A
Either true G H = G
Either false G H = H

-- No bytes, for the value that there is.
abbrev pub Only : {A : Type 0} → Option A → Grammar A
Only None bytes v = ⊥
Only (Some a) bytes v = (bytes ≡ []) × (a ≡ v)

-- One byte.
abbrev pub AByte : Grammar ℕ
AByte bytes b = (bytes ≡ b ∷ []) × (b < 256)

-- These bytes, then an encoding.
abbrev pub After : {A : Type 0} → List ℕ → Grammar A → Grammar A
After prefix G bytes v = (back : List ℕ) × (bytes ≡ prefix ++ back) × G back v

-- Encodings of the values of a list, with nothing between and nothing left over.
abbrev pub Joined : {A : Type 0} → Grammar A → Grammar (List A)
Joined G bytes [] = bytes ≡ []
Joined G bytes (v ∷ vs) = (prefix : List ℕ) × (back : List ℕ) × (bytes ≡ prefix ++ back) × G prefix v × Joined G back vs

-- A count, then as many encodings.
abbrev pub Counted : {A : Type 0} → Grammar ℕ → Grammar A → Grammar (List A)
Counted Count G bytes vs = (prefix : List ℕ) × (back : List ℕ) × (bytes ≡ prefix ++ back) × Count prefix (length vs) × Joined G back vs

-- No value is encoded by no bytes.
abbrev pub TakesBytes : {V : Type 0} → Grammar V → Type 0
TakesBytes {V} G = (v : V) → G [] v → ⊥

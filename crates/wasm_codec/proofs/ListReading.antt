-- A loop that reads items as long as there are bytes left, over any grammar.
use Rattle.std.proofs.Common.{◌≡◌, ℕ, suc, ◌-◌, ◌<◌, ◌≤◌, List, [], ◌∷◌, ◌++◌, length, get_or, take, drop, Some, None, Result, Ok, Err, IfOk, ◌↔◌, refl, sym, ap, subst, ◌∙◌, append_assoc, length-append, arith}
use Rattle.std.proofs.lemmas.List.{append-nil, take-append-drop}
use Rattle.wasm_codec.specs.formats.Grammar.{Grammar, Joined, IsBytes, TakesBytes}
use Rattle.wasm_codec.specs.Reading.{PlainReader, IsReadBy}
use Rattle.wasm_codec.specs.declared.reader.ReadError.{ReadError}
use Rattle.wasm_codec.specs.declared.reader.ReadError.TheVariants as errors
use Rattle.wasm_codec.specs.Outcomes.{IsOrMemory, IfRefused, IsLongestPrefix, EncodesSome, IsNormalForm}
use Rattle.wasm_codec.proofs.Laws.{IsBytes-back}
use Rattle.wasm_codec.proofs.Joining.{Joined-more, Joined-longest}
use Rattle.wasm_codec.specs.Lawful.{WritesMinimally}

pub IsBytes-from : (bytes : List ℕ) → ((i : ℕ) → get_or bytes i 0 < 256) → IsBytes bytes
IsBytes-from [] h = tt
IsBytes-from (b ∷ bytes) h = (h 0, IsBytes-from bytes (λ i. h (suc i)))

-- these items were read, and these bytes are left
pub record Progress {V : Type 0} (G : Grammar V) (bytes left : List ℕ) (vs : List V) : Type 0 where
  pub prefix : List ℕ
  pub parts : bytes ≡ prefix ++ left
  pub encodes : Joined G prefix vs

pub begin : {V : Type 0} (G : Grammar V) (bytes : List ℕ) → Progress G bytes bytes []
begin G bytes = record { prefix = []; parts = refl; encodes = refl }

some_bytes : {V : Type 0} (G : Grammar V) → TakesBytes G → (prefix : List ℕ) (v : V) → G prefix v → 0 < length prefix
some_bytes G some [] v g = absurd (some v g)
some_bytes G some (b ∷ prefix) v g = omega arith

-- one item more was read
pub record Next {V : Type 0} (G : Grammar V) (bytes left rest : List ℕ) (vs : List V) (v : V) : Type 0 where
  pub progress : Progress G bytes rest (vs ++ v ∷ [])
  pub fewer : length rest < length left

pub next : {V : Type 0} {G : Grammar V} {read : PlainReader V} → IsReadBy G read → TakesBytes G → (bytes left rest : List ℕ) (vs : List V) (v : V) → IsBytes bytes → Progress G bytes left vs → read left ≡ Some (v, rest) → Next G bytes left rest vs v
next {V} {G} r some bytes left rest vs v fits p e =
    let one = r.sound left v rest (IsBytes-back p.prefix left (rw p.parts at fits)) e in
    record {
      progress = record {
        prefix = p.prefix ++ one.prefix;
        parts = p.parts ∙ ap (λ (t : List ℕ). p.prefix ++ t) one.parts ∙ sym (append_assoc p.prefix one.prefix rest);
        encodes = Joined-more G p.prefix vs one.prefix v p.encodes one.encodes;
      };
      fewer = let more = some_bytes G some one.prefix v one.encodes in omega (arith, ap (length {A = ℕ}) one.parts, length-append one.prefix rest);
    }

pub progress_bytes : {V : Type 0} {G : Grammar V} {vs : List V} (bytes left : List ℕ) → IsBytes bytes → Progress G bytes left vs → IsBytes left
progress_bytes bytes left fits p = IsBytes-back p.prefix left (rw p.parts at fits)

-- no bytes are left
pub end : {V : Type 0} (G : Grammar V) (bytes left : List ℕ) (vs : List V) → Progress G bytes left vs → length left ≤ 0 → Joined G bytes vs
end G bytes [] vs p none = subst (λ (t : List ℕ). Joined G t vs) (sym (p.parts ∙ append-nil p.prefix)) p.encodes
end G bytes (b ∷ left) vs p none = absurd (omega arith)

-- no item is read of the bytes that are left
pub stopped : {V : Type 0} {G : Grammar V} {read : PlainReader V} → IsReadBy G read → TakesBytes G → (bytes left : List ℕ) (vs : List V) → Progress G bytes left vs → read left ≡ None → IsLongestPrefix (EncodesSome (Joined G)) bytes (length bytes - length left)
stopped {V} {G} r some bytes left vs p none =
    let len : length p.prefix ≡ length bytes - length left = omega (arith, ap (length {A = ℕ}) p.parts, length-append p.prefix left) in
    subst (IsLongestPrefix (EncodesSome (Joined G)) bytes) len (Joined-longest r some bytes p.prefix left vs p.parts p.encodes none)

pub IsBytes-drop : (bytes : List ℕ) (n : ℕ) → IsBytes bytes → IsBytes (drop n bytes)
IsBytes-drop bytes n fits = IsBytes-back (take n bytes) (drop n bytes) (rw (take-append-drop n bytes) fits)

-- ---- normal forms

-- ---- results

-- bytes encode at most one value
abbrev pub AtMostOne : {V : Type 0} → Grammar V → Type 0
AtMostOne {V} G = (bytes : List ℕ) (v w : V) → G bytes v → G bytes w → v ≡ w

-- where the longest whole prefix is shorter than the bytes, they encode nothing
not_whole : {V : Type 0} (G : Grammar V) (bytes : List ℕ) (at : ℕ) → at < length bytes → IsLongestPrefix (EncodesSome G) bytes at → (v : V) → G bytes v → ⊥
not_whole G bytes at lt prefix v g = let le = prefix.longest bytes [] (sym (append-nil bytes)) (v, g) in absurd (omega arith)

-- where it refused, the bytes encode nothing
abbrev pub IfRefusedNone : {X V : Type 0} → Grammar V → List ℕ → Result X ReadError → Type 0
IfRefusedNone {V = V} G bytes result = IfRefused result (λ _. (v : V) → G bytes v → ⊥)

pub none_within : {X V : Type 0} (G : Grammar V) (bytes : List ℕ) (result : Result X ReadError) → IfRefused result (IsLongestPrefix (EncodesSome G) bytes) → IfRefused result (λ at. at < length bytes) → IfRefusedNone G bytes result
none_within G bytes (Ok x) prefix within = tt
none_within G bytes (Err errors.Memory) prefix within = tt
none_within G bytes (Err (errors.Refused at)) prefix within = not_whole G bytes at within prefix

-- what is encoded is given
pub gives_all : {X V : Type 0} {G : Grammar V} → AtMostOne G → (view : X → V) (bytes : List ℕ) (result : Result X ReadError)
    → IfOk result (λ x. G bytes (view x)) → IfRefusedNone G bytes result → (v : V) → G bytes v → IsOrMemory view v result
gives_all one view bytes (Ok x) given none v g = one bytes (view x) v given g
gives_all one view bytes (Err errors.Memory) given none v g = tt
gives_all one view bytes (Err (errors.Refused at)) given none v g = none v g

-- the minimal encoding of what is encoded is given
pub gives_bytes : {X V : Type 0} {G : Grammar V} → AtMostOne G → (encoding_of : V → List ℕ) (view : X → List ℕ) (bytes : List ℕ) (result : Result X ReadError)
    → IfOk result (λ x. IsNormalForm G encoding_of bytes (view x)) → IfRefusedNone G bytes result → (v : V) → G bytes v → IsOrMemory view (encoding_of v) result
gives_bytes one encoding_of view bytes (Ok x) given none v g = given.is_minimal ∙ ap encoding_of (one bytes given.value v given.encoded g)
gives_bytes one encoding_of view bytes (Err errors.Memory) given none v g = tt
gives_bytes one encoding_of view bytes (Err (errors.Refused at)) given none v g = none v g

-- a normal form of the bytes encodes what they encode
same_values : {V : Type 0} {G : Grammar V} {F : V → Type 0} {encoding_of : V → List ℕ} → AtMostOne G → WritesMinimally G F encoding_of → (bytes encoding : List ℕ) → IsNormalForm G encoding_of bytes encoding → (w : V) → G encoding w ↔ G bytes w
same_values {V} {G} one s bytes encoding n w =
    let h : G encoding n.value = subst (λ (t : List ℕ). G t n.value) (sym n.is_minimal) (s.again bytes n.value n.encoded) in
    (λ k. subst (G bytes) (one encoding n.value w h k) n.encoded, λ k. subst (G encoding) (one bytes n.value w n.encoded k) h)

-- and is the minimal encoding of it
is_normal : {V : Type 0} {G : Grammar V} {F : V → Type 0} {encoding_of : V → List ℕ} → AtMostOne G → WritesMinimally G F encoding_of → (bytes encoding : List ℕ) → IsNormalForm G encoding_of bytes encoding → (w : V) → G encoding w → encoding ≡ encoding_of w
is_normal {V} {G} {encoding_of = encoding_of} one s bytes encoding n w k =
    let h : G encoding n.value = subst (λ (t : List ℕ). G t n.value) (sym n.is_minimal) (s.again bytes n.value n.encoded) in
    n.is_minimal ∙ ap encoding_of (one encoding n.value w h k)

pub gives_same : {X V : Type 0} {G : Grammar V} {F : V → Type 0} {encoding_of : V → List ℕ} → AtMostOne G → WritesMinimally G F encoding_of → (view : X → List ℕ) (bytes : List ℕ) (result : Result X ReadError)
    → IfOk result (λ x. IsNormalForm G encoding_of bytes (view x)) → IfOk result (λ x. (w : V) → G (view x) w ↔ G bytes w)
gives_same one s view bytes (Ok x) given = same_values one s bytes (view x) given
gives_same one s view bytes (Err e) given = tt

pub gives_normal : {X V : Type 0} {G : Grammar V} {F : V → Type 0} {encoding_of : V → List ℕ} → AtMostOne G → WritesMinimally G F encoding_of → (view : X → List ℕ) (bytes : List ℕ) (result : Result X ReadError)
    → IfOk result (λ x. IsNormalForm G encoding_of bytes (view x)) → IfOk result (λ x. (w : V) → G (view x) w → view x ≡ encoding_of w)
gives_normal one s view bytes (Ok x) given = is_normal one s bytes (view x) given
gives_normal one s view bytes (Err e) given = tt

-- a minimal encoding is given as it is
pub gives_itself : {X : Type 0} (view : X → List ℕ) (bytes encoding : List ℕ) (result : Result X ReadError) → bytes ≡ encoding → IsOrMemory view encoding result → IsOrMemory view bytes result
gives_itself view bytes encoding result e given = subst (λ (t : List ℕ). IsOrMemory view t result) (sym e) given

-- bytes that a call returns unchanged are a minimal encoding
pub was_minimal : {X V : Type 0} (G S : Grammar V) (encoding_of : V → List ℕ) (view : X → List ℕ) (bytes : List ℕ) (result : Result X ReadError) → ((v : V) → G bytes v → bytes ≡ encoding_of v → S bytes v)
    → IfOk result (λ x. IsNormalForm G encoding_of bytes (view x)) → IfOk result (λ x. view x ≡ bytes → EncodesSome S bytes)
was_minimal G S encoding_of view bytes (Ok x) is given = λ e. (given.value, is given.value given.encoded (sym e ∙ given.is_minimal))
was_minimal G S encoding_of view bytes (Err e) is given = tt

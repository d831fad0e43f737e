-- The laws of names, and what is read of them.
use Rattle.std.proofs.Common.{◌≡◌, Bool, true, false, cond, ℕ, List, [], Option, Some, None, refl, ap, subst, inl, ◌<◌, ◌≤◌, ltb, length, take, drop}
use Rattle.std.specs.Str.{is_utf8, IsUtf8}
use Rattle.std.proofs.lemmas.Bool.{le-ltb, lt-ltb}
use Rattle.std.proofs.lemmas.Str.{is_utf8-from_IsUtf8, IsUtf8-from_is_utf8}
use Rattle.wasm_codec.specs.formats.Grammar.{IsBytes}
use Rattle.wasm_codec.specs.Places.{Place, place, u32_at}
use Rattle.wasm_codec.specs.Lawful.{IsLawful, IsLawfulBody}
use Rattle.wasm_codec.specs.Rewriter.{Rewriting, rewriting_after}
use Rattle.wasm_codec.specs.formats.Bodies.{bytes_to_end, body_at}
use Rattle.wasm_codec.specs.Encoding.{IsCount, IsMinimal}
use Rattle.wasm_codec.proofs.Laws.{some_is}
use Rattle.wasm_codec.proofs.NumberLaws.{written}
use Rattle.wasm_lists.proofs.WrittenLists.{in_range_of}
use Rattle.wasm_codec.proofs.FormatLaws.{keeps_same}
use Rattle.wasm_codec.proofs.BodyLaws.{Lawful-sized}
use Rattle.wasm_externals.specs.formats.Names.{utf8_to_end, name}

pub text_is_lawful : IsLawfulBody utf8_to_end
text_is_lawful = record {
  reads = record { sound = sound; complete = λ body v s g. rw (g.0, g.2, keeps_same s v) refl };
  minimal = record { encodes = λ v fits. (refl, fits.0, fits.1); again = λ bytes v g. (refl, g.1, g.2); least = λ bytes v g. inl g.0 };
  in_range = λ bytes v g. (g.1, g.2);
  are_bytes = λ bytes v g. rw g.0 g.1;
} where
  sound : (p : Place) (v : List ℕ) (q : Place) → IsBytes p.left → utf8_to_end.at p ≡ Some (v, q) → q.left ≡ [] → utf8_to_end.Encodes p.left v
  sound p v q fits e none = by (is_utf8 p.left) refl e where
    by : (t : Bool) → is_utf8 p.left ≡ t → cond {A = Option (List ℕ × Place)} t (Some (p.left, place p.minimal [])) None ≡ Some (v, q) → utf8_to_end.Encodes p.left v
    by true is e =
        let same : p.left ≡ v = ap (λ (x : List ℕ × Place). x.0) (some_is (p.left, place p.minimal []) (v, q) e) in
        (same, subst IsBytes same fits, subst (λ (t : List ℕ). is_utf8 t ≡ true) same is)
    by false other e = absurd cc

pub name_is_lawful : IsLawful name
unfolding name
name_is_lawful = Lawful-sized text_is_lawful

-- ---- reading

pub name_read : (p mid q : Place) (n : ℕ) (text : List ℕ) → u32_at p ≡ Some (n, mid) → n ≤ length mid.left → text ≡ take n mid.left → q ≡ place mid.minimal (drop n mid.left) → IsUtf8 text → name.at p ≡ Some (text, q)
unfolding name
name_read p mid q n text e le is after u =
    let long : ltb (length mid.left) n ≡ false = le-ltb _ _ le in
    let test : is_utf8 (take n mid.left) ≡ true = subst (λ (t : List ℕ). is_utf8 t ≡ true) is (is_utf8-from_IsUtf8 text u) in
    rw (is, after, e, long, test) refl

pub name_refused : (p mid : Place) (n : ℕ) (text : List ℕ) → u32_at p ≡ Some (n, mid) → n ≤ length mid.left → text ≡ take n mid.left → (IsUtf8 text → ⊥) → name.at p ≡ None
unfolding name
name_refused p mid n text e le is not =
    let long : ltb (length mid.left) n ≡ false = le-ltb _ _ le in
    let test : is_utf8 (take n mid.left) ≡ false = subst (λ (t : List ℕ). is_utf8 t ≡ false) is (by (is_utf8 text) refl) in
    rw (e, long, test) refl
  where
    by : (t : Bool) → is_utf8 text ≡ t → t ≡ false
    by true h = absurd (not (IsUtf8-from_is_utf8 text h))
    by false h = refl

pub short_name_read : (p q : Place) (bytes text : List ℕ) → body_at p ≡ Some (bytes, q) → text ≡ bytes → IsUtf8 bytes → name.at p ≡ Some (text, q)
unfolding name
short_name_read p q bytes text e is u =
    let test : is_utf8 bytes ≡ true = is_utf8-from_IsUtf8 bytes u in
    rw (is, e, test) refl

pub no_size : (p : Place) → u32_at p ≡ None → name.at p ≡ None
unfolding name
no_size p e = rw e refl

pub no_bytes : (p mid : Place) (n : ℕ) → u32_at p ≡ Some (n, mid) → length mid.left < n → name.at p ≡ None
unfolding name
no_bytes p mid n e lt =
    let short : ltb (length mid.left) n ≡ true = lt-ltb _ _ lt in
    rw (e, short) refl

not_utf8 : (text : List ℕ) → (IsUtf8 text → ⊥) → is_utf8 text ≡ false
not_utf8 text not = by (is_utf8 text) refl where
  by : (t : Bool) → is_utf8 text ≡ t → t ≡ false
  by true h = absurd (not (IsUtf8-from_is_utf8 text h))
  by false h = refl

-- a text that is UTF-8 stays as it is
pub text_stays : (old new : Rewriting) (text : List ℕ) → text ≡ old.place.left → IsUtf8 text → rewriting_after bytes_to_end old ≡ Some new → rewriting_after utf8_to_end old ≡ Some new
text_stays old new text is u e =
    let test : is_utf8 old.place.left ≡ true = subst (λ (t : List ℕ). is_utf8 t ≡ true) is (is_utf8-from_IsUtf8 text u) in
    rw test e

pub text_refused : (p : Place) (text : List ℕ) → text ≡ p.left → (IsUtf8 text → ⊥) → utf8_to_end.at p ≡ None
text_refused p text is not =
    let test : is_utf8 p.left ≡ false = subst (λ (t : List ℕ). is_utf8 t ≡ false) is (not_utf8 text not) in
    rw test refl

-- ---- writing

pub utf8_test : (text : List ℕ) → IsUtf8 text → is_utf8 text ≡ true
utf8_test text u = is_utf8-from_IsUtf8 text u

pub name_written : (text : List ℕ) → IsBytes text → is_utf8 text ≡ true → IsCount (length text) → IsMinimal name.Encodes name.bytes text
unfolding name
name_written text bytes utf8 few = written name_is_lawful.minimal text ((bytes, utf8), few)

pub in_name : (text : List ℕ) → IsMinimal name.Encodes name.bytes text → name.InRange text
in_name text h = in_range_of name name_is_lawful text h

-- The laws of functions that append one part after the other.
use Rattle.std.proofs.Common.{◌≡◌, ◌++◌, ◌⊎◌, ℕ, [], List, length, take, drop, append_assoc, Result, Ok, Err, OnOk, OnErr, IfErr, inl, inr, ap, sym, ◌∙◌, arith}
use Rattle.std.proofs.lemmas.List.{append-nil, take-append-drop}
use Rattle.std.proofs.Math.Seq.{take-append_seam}
use Rattle.wasm_codec.specs.Appending.{Appends}
use Rattle.wasm_codec.specs.Encoding.{CanEncodeList, IsCount, IsCountRefusal, IsListRefusal}
use Rattle.wasm_codec.specs.declared.encode.EncodeError.{EncodeError}
use Rattle.wasm_codec.specs.declared.encode.EncodeError.TheVariants.{Memory, TooLong}

-- ---- parts

pub two : (old a b one new : List ℕ) → one ≡ old ++ a → new ≡ one ++ b → new ≡ old ++ (a ++ b)
two old a b one new p q = q ∙ ap (λ (l : List ℕ). l ++ b) p ∙ append_assoc old a b

pub three : (old a b c one more new : List ℕ) → one ≡ old ++ a → more ≡ one ++ b → new ≡ more ++ c → new ≡ old ++ (a ++ (b ++ c))
three old a b c one more new p q r = two old a (b ++ c) one new p (two one b c more new q r)

pub four : (old a b c d one more most new : List ℕ) → one ≡ old ++ a → more ≡ one ++ b → most ≡ more ++ c → new ≡ most ++ d → new ≡ old ++ (a ++ (b ++ (c ++ d)))
four old a b c d one more most new p q r s = two old a (b ++ (c ++ d)) one new p (three one b c d more most new q r s)

-- what stood before that was appended stands there still
pub kept_after : (old more new : List ℕ) → new ≡ old ++ more → take (length old) new ≡ old
kept_after old more new e = ap (take (length old)) e ∙ take-append_seam old more

pub kept_either : {T E : Type 0} (r : Result T E) (old more new : List ℕ) → OnOk r (new ≡ old ++ more) → OnErr r (new ≡ old) → take (length old) new ≡ old
kept_either (Ok x) old more new written left = kept_after old more new written
kept_either (Err e) old more new written left = kept_after old [] new (left ∙ sym (append-nil old))

-- what is known where all was written
pub where_ok : {T E : Type 0} (r : Result T E) {P Q : Type 0} → (P → Q) → OnOk r P → OnOk r Q
where_ok (Ok x) f p = f p
where_ok (Err e) f p = p

pub where_both_ok : {T E : Type 0} (r : Result T E) {P Q R : Type 0} → (P → Q → R) → OnOk r P → OnOk r Q → OnOk r R
where_both_ok (Ok x) f p q = f p q
where_both_ok (Err e) f p q = p

-- what stood before more that was appended stands there still
pub kept_before : (old more mid new : List ℕ) → mid ≡ old ++ more → take (length mid) new ≡ mid → take (length old) new ≡ old
kept_before old more mid new is kept =
    let left = drop (length mid) new in
    let whole : new ≡ old ++ (more ++ left) = sym (take-append-drop (length mid) new) ∙ ap (λ (t : List ℕ). t ++ left) (kept ∙ is) ∙ append_assoc old more left in
    ap (take (length old)) whole ∙ take-append_seam old (more ++ left)

-- ---- calls

-- Memory ran out, or the value can't be written.
abbrev IsRefused : Type 0 → EncodeError → Type 0
IsRefused Can e = (e ≡ Memory) ⊎ ((Can → ⊥) × (e ≡ TooLong))

refused_too : {Can More : Type 0} (e : EncodeError) → (More → Can) → IsRefused Can e → IsRefused More e
refused_too e back (inl memory) = inl memory
refused_too e back (inr (not, long)) = inr ((λ more. not (back more)), long)

-- the count is too large
pub count_refused : (r : Result (Unit {0}) EncodeError) (n : ℕ) → IfErr r (IsCountRefusal n) → IfErr r (IsRefused (IsCount n))
count_refused (Ok tt) n refused = tt
count_refused (Err e) n (inl memory) = inl memory
count_refused (Err e) n (inr (long, many)) = inr ((λ few. omega (arith, few, many)), long)

-- all was put
pub appended : {bytes old new : List ℕ} {Can Written : Type 0} → new ≡ old ++ bytes → Can → Written → Appends bytes Can Written old new (Ok tt)
appended {bytes = bytes} {old = old} {new = new} e can written = record { ok = e; can = can; written = written; refused = tt; kept = kept_after old bytes new e }

-- a call that changes nothing on error
pub appends_or_not : {r : Result (Unit {0}) EncodeError} {bytes old new : List ℕ} {Can Written : Type 0} → OnOk r (new ≡ old ++ bytes) → OnOk r Can → OnOk r Written → IfErr r (IsRefused Can) → OnErr r (new ≡ old) → Appends bytes Can Written old new r
appends_or_not {r = r} {bytes = bytes} {old = old} {new = new} ok can written refused err = record { ok = ok; can = can; written = written; refused = refused; kept = kept_either r old bytes new ok err }

-- after what was appended, a call appends the last part
pub appends_after : {r : Result (Unit {0}) EncodeError} {last old mid new : List ℕ} {Can Written : Type 0} (first : List ℕ) → Appends last Can Written mid new r → mid ≡ old ++ first → Appends (first ++ last) Can Written old new r
appends_after {r = Ok tt} {last = last} {old = old} {mid = mid} {new = new} first call put = appended (two old first last mid new put call.ok) call.can call.written
appends_after {r = Err e} {old = old} {mid = mid} {new = new} first call put = record { ok = tt; can = tt; written = tt; refused = call.refused; kept = kept_before old first mid new put call.kept }

-- the same bytes are the encoding of another value
pub appends_more : {r : Result (Unit {0}) EncodeError} {bytes same old new : List ℕ} {Can Written More Whole : Type 0} → bytes ≡ same → (Can → More) → (More → Can) → (Can → Written → Whole) → Appends bytes Can Written old new r → Appends same More Whole old new r
appends_more {r = Ok tt} {old = old} e more back whole call = record { ok = call.ok ∙ ap (λ (l : List ℕ). old ++ l) e; can = more call.can; written = whole call.can call.written; refused = tt; kept = call.kept }
appends_more {r = Err x} e more back whole call = record { ok = tt; can = tt; written = tt; refused = refused_too x back call.refused; kept = call.kept }

pub appends_as : {r : Result (Unit {0}) EncodeError} {bytes same old new : List ℕ} {Can Written Whole : Type 0} → bytes ≡ same → (Written → Whole) → Appends bytes Can Written old new r → Appends same Can Whole old new r
appends_as e whole call = appends_more e (λ can. can) (λ can. can) (λ can. whole) call

-- a call that appends a list of items that all have an encoding
pub list_appends : {T : Type 0} {r : Result (Unit {0}) EncodeError} {bytes old new : List ℕ} {Written : Type 0} (xs : List T) → OnOk r (new ≡ old ++ bytes) → OnOk r (CanEncodeList (λ x. Unit {0}) xs) → OnOk r Written → IfErr r (IsListRefusal (λ x. Unit {0}) (λ x e. ⊥) xs) → OnErr r (new ≡ old)
    → Appends bytes (IsCount (length xs)) (IsCount (length xs) × Written) old new r
list_appends {r = Ok tt} xs ok can written refused err = appended ok can.0 (can.0, written)
list_appends {r = Err e} {bytes = bytes} {old = old} {new = new} xs ok can written refused err = record { ok = tt; can = tt; written = tt; refused = why refused; kept = kept_either {T = Unit {0}} (Err e) old bytes new tt err } where
  why : IsListRefusal (λ x. Unit {0}) (λ x e. ⊥) xs e → IsRefused (IsCount (length xs)) e
  why (inl memory) = inl memory
  why (inr (inl (long, many))) = inr ((λ few. omega (arith, few, many)), long)
  why (inr (inr (k, x, lt, at, (cannot, never)))) = absurd never

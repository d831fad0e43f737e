-- Digits: the numbers that are read from them, and the fewest that stand for a number.
use Rattle.std.proofs.Common.{◌≡◌, ℕ, zero, suc, ◌+◌, ◌*◌, ◌%◌, ◌/◌, ◌^◌, ◌<◌, ◌≤◌, Bool, true, false, cond, ltb, List, [], ◌∷◌, ◌++◌, length, Option, Some, refl, sym, ap, subst, inl, inr, arith}
use Rattle.std.proofs.lemmas.Bool.{ltb-true, lt-ltb, ltb-false, le-ltb}
use Rattle.std.proofs.lemmas.Nat.{div_below}
use Rattle.wasm_codec.specs.formats.Grammar.{IsBytes}
use Rattle.wasm_codec.specs.Reading.{◌>>=◌, BeginsWith, IsReadBy}
use Rattle.wasm_codec.specs.formats.Numbers.{IsDigits, last, Number}
use Rattle.wasm_codec.specs.Leb128.{digits_at, plain_number_at, complemented, digits_of}
use Rattle.wasm_codec.specs.Encoding.{IsMinimalOrLonger}
use Rattle.wasm_codec.specs.Rewriter.{cut}
use Rattle.wasm_codec.proofs.Laws.{bind_some, some_is}

-- ---- reading

-- what the reader of digits took
pub record Took (most : ℕ) (bytes digits rest : List ℕ) : Type 0 where
  pub parts : bytes ≡ digits ++ rest
  pub are : IsDigits digits
  pub short : length digits ≤ most

longer : (b : ℕ) (digits : List ℕ) → 128 ≤ b → b < 256 → IsDigits digits → IsDigits (b ∷ digits)
longer b [] high lt d = absurd d
longer b (c ∷ digits) high lt d = (high, lt, d)

digits_sound : (most : ℕ) (bytes digits rest : List ℕ) → IsBytes bytes → digits_at most bytes ≡ Some (digits, rest) → Took most bytes digits rest
unfolding digits_at
digits_sound zero bytes digits rest fits e = absurd cc
digits_sound (suc most) [] digits rest fits e = absurd cc
digits_sound (suc most) (b ∷ bytes) digits rest fits e = by (λ ds more. digits_sound most bytes ds more fits.1) (ltb b 128) refl e where
  by : ((ds more : List ℕ) → digits_at most bytes ≡ Some (ds, more) → Took most bytes ds more) → (t : Bool) → ltb b 128 ≡ t → cond {A = Option (List ℕ × List ℕ)} t (Some (b ∷ [], bytes)) (digits_at most bytes >>= λ more. Some (b ∷ more.0, more.1)) ≡ Some (digits, rest) → Took (suc most) (b ∷ bytes) digits rest
  by again true test e =
      let whole : Took (suc most) (b ∷ bytes) (b ∷ []) bytes = record { parts = refl; are = ltb-true _ _ test; short = omega arith } in
      subst (λ (x : List ℕ × List ℕ). Took (suc most) (b ∷ bytes) x.0 x.1) (some_is (b ∷ [], bytes) (digits, rest) e) whole
  by again false test e =
      let p = bind_some (digits_at most bytes) (λ more. Some (b ∷ more.0, more.1)) (digits, rest) e in
      let t = again p.0.0 p.0.1 p.1 in
      let whole : Took (suc most) (b ∷ bytes) (b ∷ p.0.0) p.0.1 = record { parts = ap (λ (t : List ℕ). b ∷ t) t.parts; are = longer b p.0.0 (ltb-false _ _ test) fits.0 t.are; short = omega (arith, t.short) } in
      subst (λ (x : List ℕ × List ℕ). Took (suc most) (b ∷ bytes) x.0 x.1) (some_is (b ∷ p.0.0, p.0.1) (digits, rest) p.2) whole

digits_complete : (most : ℕ) (digits rest : List ℕ) → IsDigits digits → length digits ≤ most → digits_at most (digits ++ rest) ≡ Some (digits, rest)
unfolding digits_at
digits_complete most [] rest d le = absurd d
digits_complete zero (b ∷ digits) rest d le = absurd (omega arith)
digits_complete (suc most) (b ∷ []) rest d le = rw (lt-ltb b 128 d) refl
digits_complete (suc most) (b ∷ c ∷ digits) rest d le =
    rw (le-ltb b 128 d.0, digits_complete most (c ∷ digits) rest d.2 (omega arith)) refl

-- a number is read where its value is found in its digits
pub IsReadBy-number : {V : Type 0} (most : ℕ) (Means : List ℕ → V → Type 0) (value : List ℕ → Option V)
    → ((digits : List ℕ) (v : V) → value digits ≡ Some v → Means digits v) → ((digits : List ℕ) (v : V) → IsDigits digits → Means digits v → value digits ≡ Some v) → IsReadBy (Number most Means) (plain_number_at most value)
IsReadBy-number {V} most Means value means finds = record {
  sound = λ bytes v rest fits e.
      let p = bind_some (digits_at most bytes) (λ digits. value digits.0 >>= λ v. Some (v, digits.1)) (v, rest) e in
      let q = bind_some (value p.0.0) (λ v. Some (v, p.0.1)) (v, rest) p.2 in
      let t = digits_sound most bytes p.0.0 p.0.1 fits p.1 in
      let whole : BeginsWith (Number most Means) bytes q.0 p.0.1 = record { prefix = p.0.0; encodes = (t.are, t.short, means p.0.0 q.0 q.1); parts = t.parts } in
      subst (λ (x : V × List ℕ). BeginsWith (Number most Means) bytes x.0 x.1) (some_is (q.0, p.0.1) (v, rest) q.2) whole;
  complete = λ prefix v rest g. rw (digits_complete most prefix rest g.0 g.1, finds prefix v g.0 g.2) refl;
}

-- ---- the fewest digits

pub less_one : (top more n : ℕ) → n < top * 128 ^ suc more → n / 128 < top * 128 ^ more
less_one top more n lt =
    let p : 128 ^ suc more ≡ 128 * 128 ^ more = omega arith in
    let q : n < top * (128 * 128 ^ more) = rw p at lt in
    div_below n 128 (top * 128 ^ more) (omega arith) (omega arith)

-- the number that digits stand for, each complemented or not
unfoldable pub magnitude : Bool → List ℕ → ℕ
magnitude turn [] = 0
magnitude turn (b ∷ bytes) = complemented turn (b % 128) + 128 * magnitude turn bytes

-- digits that stand for n, the last for a number below top
pub record Stands (turn : Bool) (top : ℕ) (digits : List ℕ) (n : ℕ) : Type 0 where
  pub are : IsDigits digits
  pub ends : complemented turn (last digits) < top
  pub value : magnitude turn digits ≡ n

twice : (turn : Bool) (k : ℕ) → k < 128 → (complemented turn k < 128) × (complemented turn (complemented turn k) ≡ k)
twice true k lt = (omega arith, omega arith)
twice false k lt = (omega arith, refl)

Stands-one : (turn : Bool) (top n : ℕ) → top ≤ 128 → n < top → Stands turn top (complemented turn n ∷ []) n
unfolding magnitude
Stands-one turn top n wide lt =
    let t = twice turn n (omega arith) in
    let low : complemented turn n % 128 ≡ complemented turn n = omega (arith, t.0) in
    record { are = t.0; ends = omega (arith, t.1); value = rw low (omega (arith, t.1)) }

last-longer : (b : ℕ) (digits : List ℕ) → IsDigits digits → last (b ∷ digits) ≡ last digits
last-longer b [] d = absurd d
last-longer b (c ∷ digits) d = refl

Stands-more : (turn : Bool) (top n : ℕ) (digits : List ℕ) → Stands turn top digits (n / 128) → Stands turn top ((128 + complemented turn (n % 128)) ∷ digits) n
unfolding magnitude
Stands-more turn top n digits h =
    let t = twice turn (n % 128) (omega arith) in
    let low : (128 + complemented turn (n % 128)) % 128 ≡ complemented turn (n % 128) = omega (arith, t.0) in
    record {
      are = longer (128 + complemented turn (n % 128)) digits (omega arith) (omega (arith, t.0)) h.are;
      ends = rw (last-longer (128 + complemented turn (n % 128)) digits h.are) h.ends;
      value = rw (low, h.value, t.1) (omega arith);
    }

pub digits_stand : (turn : Bool) (top : ℕ) → top ≤ 128 → (more n : ℕ) → n < top * 128 ^ more → Stands turn top (digits_of turn top more n) n
unfolding digits_of
digits_stand turn top wide zero n lt = Stands-one turn top n wide (omega arith)
digits_stand turn top wide (suc more) n lt = by (λ small. digits_stand turn top wide more (n / 128) small) (ltb n top) refl where
  by : (n / 128 < top * 128 ^ more → Stands turn top (digits_of turn top more (n / 128)) (n / 128)) → (t : Bool) → ltb n top ≡ t → Stands turn top (cond t (complemented turn n ∷ []) ((128 + complemented turn (n % 128)) ∷ digits_of turn top more (n / 128))) n
  by again true test = Stands-one turn top n wide (ltb-true _ _ test)
  by again false test = Stands-more turn top n (digits_of turn top more (n / 128)) (again (less_one top more n lt))

-- with more room than is needed, no digit more
pub length-digits_of : (turn : Bool) (top room more n : ℕ) → n < top * 128 ^ more → length (digits_of turn top room n) ≤ suc more
unfolding digits_of
length-digits_of turn top zero more n lt = omega arith
length-digits_of turn top (suc room) zero n lt = rw (lt-ltb n top (omega arith)) (omega arith)
length-digits_of turn top (suc room) (suc more) n lt = by (length-digits_of turn top room more (n / 128) (less_one top more n lt)) (ltb n top) where
  by : length (digits_of turn top room (n / 128)) ≤ suc more → (t : Bool) → length (cond t (complemented turn n ∷ []) ((128 + complemented turn (n % 128)) ∷ digits_of turn top room (n / 128))) ≤ suc (suc more)
  by le true = omega arith
  by le false = omega arith

-- a last digit that stands for n below top
one-is : (turn : Bool) (top b n : ℕ) → Stands turn top (b ∷ []) n → (n < top) × (b ≡ complemented turn n)
unfolding magnitude
one-is turn top b n h =
    let small : b < 128 = h.are in
    let t = twice turn b small in
    let low : b % 128 ≡ b = omega arith in
    let v : complemented turn b + 128 * 0 ≡ n = rw low at h.value in
    let n-is : n ≡ complemented turn b = omega arith in
    (rw n-is h.ends, rw n-is (sym t.1))

more-is : (turn : Bool) (top b c n : ℕ) (bytes : List ℕ) → Stands turn top (b ∷ c ∷ bytes) n → (b ≡ 128 + complemented turn (n % 128)) × Stands turn top (c ∷ bytes) (n / 128)
unfolding magnitude
more-is turn top b c n bytes h =
    let high : 128 ≤ b = h.are.0 in
    let byte : b < 256 = h.are.1 in
    let t = twice turn (b % 128) (omega arith) in
    let v : complemented turn (b % 128) + 128 * magnitude turn (c ∷ bytes) ≡ n = h.value in
    let low : n % 128 ≡ complemented turn (b % 128) = omega (arith, t.0) in
    (rw (low, t.1) (omega arith), record { are = h.are.2; ends = h.ends; value = omega (arith, t.0) })

pub digits_least : (turn : Bool) (top : ℕ) → (more : ℕ) (bytes : List ℕ) (n : ℕ) → top ≤ 128 → n < top * 128 ^ more → Stands turn top bytes n → IsMinimalOrLonger bytes (digits_of turn top more n)
unfolding digits_of
digits_least turn top more [] n wide lt h = absurd h.are
digits_least turn top zero (b ∷ []) n wide lt h = inl (ap (λ (k : ℕ). k ∷ []) (one-is turn top b n h).1)
digits_least turn top zero (b ∷ c ∷ bytes) n wide lt h = inr (omega arith)
digits_least turn top (suc more) (b ∷ []) n wide lt h =
    let p = one-is turn top b n h in inl (rw (lt-ltb n top p.0) (ap (λ (k : ℕ). k ∷ []) p.1))
digits_least turn top (suc more) (b ∷ c ∷ bytes) n wide lt h =
    by (digits_least turn top more (c ∷ bytes) (n / 128) wide (less_one top more n lt) (more-is turn top b c n bytes h).1) (ltb n top) where
      by : IsMinimalOrLonger (c ∷ bytes) (digits_of turn top more (n / 128)) → (t : Bool) → IsMinimalOrLonger (b ∷ c ∷ bytes) (cond t (complemented turn n ∷ []) ((128 + complemented turn (n % 128)) ∷ digits_of turn top more (n / 128)))
      by again true = inr (omega arith)
      by (inl p) false = inl (rw (← p, (more-is turn top b c n bytes h).0) refl)
      by (inr p) false = inr (omega arith)

-- ---- longer digits

-- there is at least one
pub some_digits : (turn : Bool) (top room n : ℕ) → 0 < length (digits_of turn top room n)
unfolding digits_of
some_digits turn top zero n = omega arith
some_digits turn top (suc room) n = by (complemented turn n) (128 + complemented turn (n % 128)) (digits_of turn top room (n / 128)) (ltb n top) where
  by : (a b : ℕ) (more : List ℕ) (t : Bool) → 0 < length (cond t (a ∷ []) (b ∷ more))
  by a b more true = omega arith
  by a b more false = omega arith

-- the low bits of the first digit, where it stands for the whole number
low-is : (turn : Bool) (top b : ℕ) (bytes : List ℕ) (n : ℕ) → n < 128 → Stands turn top (b ∷ bytes) n → b % 128 ≡ complemented turn n
unfolding magnitude
low-is turn top b bytes n lt h =
    let t = twice turn (b % 128) (omega arith) in
    let v : complemented turn (b % 128) + 128 * magnitude turn bytes ≡ n = h.value in
    let n-is : n ≡ complemented turn (b % 128) = omega arith in
    rw n-is (sym t.1)

-- digits are cut to the fewest by keeping as many, the last without its high bit
pub digits_cut : (turn : Bool) (top : ℕ) → (more : ℕ) (bytes : List ℕ) (n : ℕ) → top ≤ 128 → n < top * 128 ^ more → Stands turn top bytes n → cut (length (digits_of turn top more n)) bytes ≡ digits_of turn top more n
unfolding digits_of
digits_cut turn top more [] n wide lt h = absurd h.are
digits_cut turn top zero (b ∷ bytes) n wide lt h = ap (λ (k : ℕ). k ∷ []) (low-is turn top b bytes n (omega arith) h)
digits_cut turn top (suc more) (b ∷ []) n wide lt h =
    let p = one-is turn top b n h in rw (lt-ltb n top p.0) (ap (λ (k : ℕ). k ∷ []) (low-is turn top b [] n (omega arith) h))
digits_cut turn top (suc more) (b ∷ c ∷ bytes) n wide lt h =
    by (digits_cut turn top more (c ∷ bytes) (n / 128) wide (less_one top more n lt) (more-is turn top b c n bytes h).1) (some_digits turn top more (n / 128)) (ltb n top) refl where
      by : cut (length (digits_of turn top more (n / 128))) (c ∷ bytes) ≡ digits_of turn top more (n / 128) → 0 < length (digits_of turn top more (n / 128)) → (t : Bool) → ltb n top ≡ t
          → cut (length (cond t (complemented turn n ∷ []) ((128 + complemented turn (n % 128)) ∷ digits_of turn top more (n / 128)))) (b ∷ c ∷ bytes) ≡ cond t (complemented turn n ∷ []) ((128 + complemented turn (n % 128)) ∷ digits_of turn top more (n / 128))
      by again some true test = ap (λ (k : ℕ). k ∷ []) (low-is turn top b (c ∷ bytes) n (omega (arith, ltb-true _ _ test)) h)
      by again some false test = cut_more (digits_of turn top more (n / 128)) again some
        where
          cut_more : (digits : List ℕ) → cut (length digits) (c ∷ bytes) ≡ digits → 0 < length digits → cut (suc (length digits)) (b ∷ c ∷ bytes) ≡ (128 + complemented turn (n % 128)) ∷ digits
          cut_more [] e le = absurd (omega arith)
          cut_more (d ∷ digits) e le = rw e (ap (λ (k : ℕ). k ∷ d ∷ digits) (more-is turn top b c n bytes h).0)

pub one_left : (turn : Bool) (top more n : ℕ) → n < top → length (digits_of turn top more n) ≡ 1
unfolding digits_of
one_left turn top zero n lt = refl
one_left turn top (suc more) n lt = rw (lt-ltb n top lt) refl

pub more_left : (turn : Bool) (top more n : ℕ) → top ≤ n → length (digits_of turn top (suc more) n) ≡ suc (length (digits_of turn top more (n / 128)))
unfolding digits_of
more_left turn top more n le = rw (le-ltb n top le) refl

pub last_left : (turn : Bool) (top n : ℕ) → length (digits_of turn top zero n) ≡ 1
unfolding digits_of
last_left turn top n = refl

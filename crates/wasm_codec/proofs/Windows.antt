-- Parts of a list of bytes: what was written, the run after a gap, and what is left.
use Rattle.std.proofs.Common.{◌≡◌, ℕ, zero, suc, ◌+◌, ◌-◌, ◌%◌, ◌<◌, ◌≤◌, Bool, false, List, [], ◌∷◌, ◌++◌, length, get_or, set, take, drop, Some, None, refl, sym, ap, ◌∙◌, append_assoc, length-append, take-add, arith}
use Rattle.std.proofs.lemmas.List.{append-nil, length-drop, length-take-le, drop-drop, drop-take, take-take, take_at, drop_at, take_more_set, drop-set-lt, get_or-take, take-append-drop, drop_more}
use lib.Seq.{paste}
use Rattle.std.proofs.lemmas.List.Edits.{take-paste, drop-paste}
use Rattle.std.specs.Borrow.{GName}
use Rattle.wasm_codec.specs.Places.{place, byte_at}
use Rattle.wasm_codec.specs.Rewriter.{Rewriting, rewritten_at, seen, skipped, shortened, without, with_byte, limited, resized, cut, done_of}
use Rattle.wasm_codec.specs.Leb128.{unsigned_leb128}
use Rattle.wasm_codec.specs.formats.Combinators.{a_byte}

-- what is left, where so many more were passed
pub left_after : (bytes : List ℕ) (position end n : ℕ) → position + n ≤ end → take (end - (position + n)) (drop (position + n) bytes) ≡ drop n (take (end - position) (drop position bytes))
left_after bytes position end n le =
    let k : end - position ≡ n + (end - (position + n)) = omega arith in
    sym (rw k (drop-take n (end - (position + n)) (drop position bytes) ∙ ap (take (end - (position + n))) (drop-drop n position bytes)))

pub first_left : (bytes : List ℕ) (position end n : ℕ) → position + n ≤ end → take n (take (end - position) (drop position bytes)) ≡ take n (drop position bytes)
first_left bytes position end n le = take-take n (end - position) (drop position bytes) (omega arith)

-- the run grows by what was passed
pub run_grows : (bytes : List ℕ) (written from position end n : ℕ) → from ≤ position → position + n ≤ end → done_of bytes written from (position + n) ≡ done_of bytes written from position ++ take n (take (end - position) (drop position bytes))
run_grows bytes written from position end n le fits =
    let k : position + n - from ≡ (position - from) + n = omega arith in
    let at : from + (position - from) ≡ position = omega arith in
    let more : take (position + n - from) (drop from bytes) ≡ take (position - from) (drop from bytes) ++ take n (drop position bytes) =
    rw k (take-add (position - from) n (drop from bytes) ∙ ap (λ (t : List ℕ). take (position - from) (drop from bytes) ++ take n t) (drop-drop (position - from) from bytes ∙ ap (λ (i : ℕ). drop i bytes) at)) in
    ap (λ (t : List ℕ). take written bytes ++ t) more ∙ sym (append_assoc (take written bytes) (take (position - from) (drop from bytes)) (take n (drop position bytes)))
    ∙ ap (λ (t : List ℕ). done_of bytes written from position ++ t) (sym (first_left bytes position end n fits))

-- the last byte of a number that is cut loses its high bit
last_cut : (n : ℕ) (run : List ℕ) → suc n ≤ length run → take n run ++ get_or run n 0 % 128 ∷ [] ≡ cut (suc n) run
last_cut n [] le = absurd (omega arith)
last_cut zero (b ∷ run) le = refl
last_cut (suc n) (b ∷ run) le = ap (λ (t : List ℕ). b ∷ t) (last_cut n run (omega arith))

cut_after : (done run : List ℕ) (n : ℕ) → suc n ≤ length run → take (length done + n) (done ++ run) ++ get_or (done ++ run) (length done + n) 0 % 128 ∷ [] ≡ done ++ cut (suc n) run
cut_after [] run n le =
    let k : 0 + n ≡ n = omega arith in
    rw k (last_cut n run le)
cut_after (b ∷ done) run n le =
    let k : suc (length done) + n ≡ suc (length done + n) = omega arith in
    rw k (ap (λ (t : List ℕ). b ∷ t) (cut_after done run n le))

pub cut_first : (n m : ℕ) (run : List ℕ) → n ≤ m → cut n (take m run) ≡ cut n run
cut_first zero m run le = refl
cut_first (suc n) zero run le = absurd (omega arith)
cut_first (suc n) (suc m) [] le = refl
cut_first (suc zero) (suc m) (b ∷ run) le = refl
cut_first (suc (suc n)) (suc m) (b ∷ run) le = ap (λ (t : List ℕ). b ∷ t) (cut_first (suc n) m run (omega arith))

-- so many bytes were passed, and stay
pub stays : (bytes : List ℕ) (written from position end : ℕ) (s : Bool) (g : GName) (n : ℕ) → from ≤ position → position + n ≤ end → seen bytes written from (position + n) end s g ≡ skipped n (seen bytes written from position end s g)
stays bytes written from position end s g n run fits = rw (run_grows bytes written from position end n run fits, left_after bytes position end n fits) refl

pub length_done : (bytes : List ℕ) (written from position : ℕ) → written ≤ from → from ≤ position → position ≤ length bytes → length (done_of bytes written from position) ≡ written + (position - from)
length_done bytes written from position gap run fits =
    omega (arith, length-append (take written bytes) (take (position - from) (drop from bytes)), length-take-le written bytes (omega arith), length-take-le (position - from) (drop from bytes) (omega (arith, length-drop from bytes)))

-- what is left behind a place is left behind each later one
later : (moved bytes : List ℕ) (near far : ℕ) → near ≤ far → drop near moved ≡ drop near bytes → drop far moved ≡ drop far bytes
later moved bytes near far le e =
    let k : near + (far - near) ≡ far = omega arith in
    ap (λ (i : ℕ). drop i moved) (sym k) ∙ sym (drop-drop (far - near) near moved) ∙ ap (drop (far - near)) e ∙ drop-drop (far - near) near bytes ∙ ap (λ (i : ℕ). drop i bytes) k

-- the byte at the end of a run was written over
end_set : (moved begin run : List ℕ) (last k x : ℕ) → take (last + 1) moved ≡ begin ++ run → suc k ≤ length run → length begin + k ≡ last → last < length moved → x ≡ get_or moved last 0 → take (last + 1) (set moved last (x % 128)) ≡ begin ++ cut (suc k) run
end_set moved begin run last k x e le at within is =
    let prefix : take last moved ≡ take last (begin ++ run) = sym (take-take last (last + 1) moved (omega arith)) ∙ ap (take last) e in
    let byte : x ≡ get_or (begin ++ run) last 0 = is ∙ sym (get_or-take (last + 1) moved last 0 (omega arith)) ∙ ap (λ (t : List ℕ). get_or t last 0) e in
    take_more_set moved last (x % 128) within ∙ ap (λ (t : List ℕ). t ++ x % 128 ∷ []) prefix ∙ ap (λ (b : ℕ). take last (begin ++ run) ++ b % 128 ∷ []) byte
    ∙ ap (λ (i : ℕ). take i (begin ++ run) ++ get_or (begin ++ run) i 0 % 128 ∷ []) (sym at) ∙ cut_after begin run k le

-- a number was cut: its first bytes end the run, which was moved, and the last of them was written over
pub shortens : (bytes moved : List ℕ) (written from position end : ℕ) (s : Bool) (g : GName) (kept n : ℕ) → written ≤ from → from ≤ position → 0 < kept → kept ≤ n → position + n ≤ end → end ≤ length bytes → length moved ≡ length bytes
    → (to : ℕ) → to ≡ written + (position + kept - from) → take to moved ≡ done_of bytes written from (position + kept) → drop (position + kept) moved ≡ drop (position + kept) bytes
    → (x : ℕ) → x ≡ get_or moved (to - 1) 0 → seen (set moved (to - 1) (x % 128)) to (position + n) (position + n) end false g ≡ shortened kept n (seen bytes written from position end s g)
shortens bytes moved written from position end s g zero n gap run some le fits within len to to-is done left x is = absurd (omega arith)
shortens bytes moved written from position end s g (suc k) n gap run some le fits within len to to-is done left x is =
    let last = to - 1 in
    let begin = done_of bytes written from position in
    let left_here = take (end - position) (drop position bytes) in
    let at : to ≡ last + 1 = omega arith in
    let before : length begin + k ≡ last = omega (arith, length_done bytes written from position gap run (omega arith)) in
    let long : suc k ≤ length (take (suc k) left_here) = omega (arith, length-take-le (suc k) left_here (omega (arith, length-take-le (end - position) (drop position bytes) (omega (arith, length-drop position bytes))))) in
    let grown : take (last + 1) moved ≡ begin ++ take (suc k) left_here = ap (λ (i : ℕ). take i moved) (sym at) ∙ done ∙ run_grows bytes written from position end (suc k) run (omega arith) in
    let ended : take to (set moved last (x % 128)) ≡ begin ++ cut (suc k) left_here =
    ap (λ (i : ℕ). take i (set moved last (x % 128))) at ∙ end_set moved begin (take (suc k) left_here) last k x grown long before (omega arith) is ∙ ap (λ (t : List ℕ). begin ++ t) (cut_first (suc k) (suc k) left_here (omega arith)) in
    let none : position + n - (position + n) ≡ 0 = omega arith in
    let whole : done_of (set moved last (x % 128)) to (position + n) (position + n) ≡ begin ++ cut (suc k) left_here = rw none (append-nil (take to (set moved last (x % 128))) ∙ ended) in
    let behind : (i : ℕ) → position + n ≤ i → drop i (set moved last (x % 128)) ≡ drop i bytes = λ i far. drop-set-lt i moved last (x % 128) (omega arith) ∙ later moved bytes (position + suc k) i (omega arith) left in
    rw (whole, behind (position + n) (omega arith), behind end fits, left_after bytes position end n fits) refl

-- ---- the next byte

pub next_byte : (bytes : List ℕ) (position end x : ℕ) → position < end → end ≤ length bytes → x ≡ get_or bytes position 0 → take (end - position) (drop position bytes) ≡ x ∷ take (end - (position + 1)) (drop (position + 1) bytes)
next_byte bytes position end x lt fits is =
    let k : end - position ≡ suc (end - (position + 1)) = omega arith in
    rw (k, drop_more bytes position 0 (omega arith)) (ap (λ (b : ℕ). b ∷ take (end - (position + 1)) (drop (position + 1) bytes)) (sym is))

pub nothing_left : (bytes : List ℕ) (position end : ℕ) → position ≡ end → take (end - position) (drop position bytes) ≡ []
nothing_left bytes position end e =
    let k : end - position ≡ 0 = omega arith in
    ap (λ (i : ℕ). take i (drop position bytes)) k

pub byte_there : (bytes : List ℕ) (written from position end : ℕ) (s : Bool) (g : GName) (x : ℕ) → position < end → end ≤ length bytes → x ≡ get_or bytes position 0 → byte_at (seen bytes written from position end s g).place ≡ Some (x, place s (take (end - (position + 1)) (drop (position + 1) bytes)))
unfolding byte_at
byte_there bytes written from position end s g x lt fits is = rw (next_byte bytes position end x lt fits is) refl

pub no_byte : (bytes : List ℕ) (written from position end : ℕ) (s : Bool) (g : GName) → position ≡ end → byte_at (seen bytes written from position end s g).place ≡ None
unfolding byte_at
no_byte bytes written from position end s g e = rw (nothing_left bytes position end e) refl

pub byte_stays : (bytes : List ℕ) (written from position end : ℕ) (s : Bool) (g : GName) (x : ℕ) → from ≤ position → position < end → end ≤ length bytes → x ≡ get_or bytes position 0 → rewritten_at a_byte (seen bytes written from position end s g) ≡ Some (x, seen bytes written from (position + 1) end s g)
byte_stays bytes written from position end s g x run lt fits is =
    let one : take 1 (take (end - position) (drop position bytes)) ≡ x ∷ [] = ap (take 1) (next_byte bytes position end x lt fits is) in
    let grown : done_of bytes written from (position + 1) ≡ done_of bytes written from position ++ x ∷ [] = run_grows bytes written from position end 1 run (omega arith) ∙ ap (λ (t : List ℕ). done_of bytes written from position ++ t) one in
    rw (byte_there bytes written from position end s g x lt fits is, grown) refl

-- ---- how much is left

pub length_left : (bytes : List ℕ) (written from position end : ℕ) (s : Bool) (g : GName) → position ≤ end → end ≤ length bytes → (r : Rewriting) → seen bytes written from position end s g ≡ r → length r.place.left ≡ end - position
length_left bytes written from position end s g le fits r is =
    ap (λ (q : Rewriting). length q.place.left) (sym is) ∙ length-take-le (end - position) (drop position bytes) (omega (arith, length-drop position bytes))

-- ---- the end of what is left

pub limits_the_rest : (bytes : List ℕ) (written from position end : ℕ) (s : Bool) (g : GName) (size : ℕ) → position + size ≤ end → end ≤ length bytes → seen bytes written from position (position + size) s g ≡ limited size (seen bytes written from position end s g)
limits_the_rest bytes written from position end s g size le fits =
    let k : position + size - position ≡ size = omega arith in
    let first : take (position + size - position) (drop position bytes) ≡ take size (take (end - position) (drop position bytes)) = ap (λ (i : ℕ). take i (drop position bytes)) k ∙ sym (first_left bytes position end size le) in
    let m : end - (position + size) + (position + size) ≡ end = omega arith in
    let at : position + size + (end - (position + size)) ≡ end = omega arith in
    let behind : drop (position + size) bytes ≡ drop size (take (end - position) (drop position bytes)) ++ drop end bytes =
    sym (take-append-drop (end - (position + size)) (drop (position + size) bytes))
    ∙ ap (λ (t : List ℕ). t ++ drop (end - (position + size)) (drop (position + size) bytes)) (left_after bytes position end size le)
    ∙ ap (λ (t : List ℕ). drop size (take (end - position) (drop position bytes)) ++ t) (drop-drop (end - (position + size)) (position + size) bytes ∙ ap (λ (i : ℕ). drop i bytes) at) in
    rw (first, behind) refl

-- ---- what was written is changed, once the run was moved

abbrev nothing : List ℕ
nothing = []

take_set : (n : ℕ) (l : List ℕ) (i x : ℕ) → take n (set l i x) ≡ set (take n l) i x
take_set zero l i x = set_none i x where
  set_none : (i x : ℕ) → nothing ≡ set nothing i x
  set_none zero x = refl
  set_none (suc i) x = refl
take_set (suc n) [] zero x = refl
take_set (suc n) [] (suc i) x = refl
take_set (suc n) (b ∷ l) zero x = refl
take_set (suc n) (b ∷ l) (suc i) x = ap (λ (t : List ℕ). b ∷ t) (take_set n l i x)

-- what was written is all before the place
closed : (bytes : List ℕ) (written position : ℕ) → done_of bytes written position position ≡ take written bytes
closed bytes written position =
    let none : position - position ≡ 0 = omega arith in
    rw none (append-nil (take written bytes))

pub cuts_out : (bytes moved : List ℕ) (written from position end : ℕ) (s : Bool) (g : GName) (to mark count : ℕ) → position ≤ end → to ≤ position → position ≤ length moved → take to moved ≡ done_of bytes written from position → drop position moved ≡ drop position bytes → mark + count ≤ to
    → seen (paste moved mark (drop (mark + count) moved) (to - (mark + count))) (to - count) position position end false g ≡ without mark count (seen bytes written from position end s g)
cuts_out bytes moved written from position end s g to mark count fits below within done left le =
    let begin = mark + count in
    let cut = paste moved mark (drop begin moved) (to - begin) in
    let some : to - begin ≤ length (drop begin moved) = omega (arith, length-drop begin moved) in
    let k : to - count ≡ mark + (to - begin) = omega arith in
    let first : take mark moved ≡ take mark (done_of bytes written from position) = sym (take-take mark to moved (omega arith)) ∙ ap (take mark) done in
    let at : begin + (to - begin) ≡ to = omega arith in
    let back : take (to - begin) (drop begin moved) ≡ drop begin (done_of bytes written from position) = sym (drop-take begin (to - begin) moved) ∙ ap (λ (i : ℕ). drop begin (take i moved)) at ∙ ap (drop begin) done in
    let whole : done_of cut (to - count) position position ≡ take mark (done_of bytes written from position) ++ drop begin (done_of bytes written from position) =
    closed cut (to - count) position ∙ ap (λ (i : ℕ). take i cut) k ∙ take-paste moved mark (drop begin moved) (to - begin) (omega arith) some ∙ rw (first, back) refl in
    let behind : (i : ℕ) → position ≤ i → drop i cut ≡ drop i bytes = λ i far. later cut moved (mark + (to - begin)) i (omega arith) (drop-paste moved mark (drop begin moved) (to - begin) (omega arith) some) ∙ later moved bytes position i far left in
    rw (whole, behind position (omega arith), behind end fits) refl

pub sets_byte : (bytes moved : List ℕ) (written from position end : ℕ) (s : Bool) (g : GName) (to mark x : ℕ) → position ≤ end → to ≤ position → take to moved ≡ done_of bytes written from position → drop position moved ≡ drop position bytes → mark < to
    → seen (set moved mark x) to position position end s g ≡ with_byte mark x (seen bytes written from position end s g)
sets_byte bytes moved written from position end s g to mark x fits below done left lt =
    let prefix : done_of (set moved mark x) to position position ≡ set (done_of bytes written from position) mark x =
    closed (set moved mark x) to position ∙ take_set to moved mark x ∙ ap (λ (t : List ℕ). set t mark x) done in
    let behind : (i : ℕ) → position ≤ i → drop i (set moved mark x) ≡ drop i bytes = λ i far. drop-set-lt i moved mark x (omega arith) ∙ later moved bytes position i far left in
    rw (prefix, behind position (omega arith), behind end fits) refl

pub resizes : (bytes moved sized : List ℕ) (written from position end : ℕ) (s : Bool) (g : GName) (to mark digits new : ℕ) → position ≤ end → to ≤ position → take to moved ≡ done_of bytes written from position → length (done_of bytes written from position) ≡ to → drop position moved ≡ drop position bytes → mark + digits ≤ to
    → take new sized ≡ take mark moved ++ (unsigned_leb128 (to - (mark + digits)) ++ take (to - (mark + digits)) (drop (mark + digits) moved)) → drop to sized ≡ drop to moved
    → seen sized new position position end s g ≡ resized mark digits (seen bytes written from position end s g)
resizes bytes moved sized written from position end s g to mark digits new fits below done len left le is behind =
    let begin = mark + digits in
    let first : take mark moved ≡ take mark (done_of bytes written from position) = sym (take-take mark to moved (omega arith)) ∙ ap (take mark) done in
    let k : begin + (to - begin) ≡ to = omega arith in
    let body : take (to - begin) (drop begin moved) ≡ drop begin (done_of bytes written from position) = sym (drop-take begin (to - begin) moved) ∙ ap (λ (i : ℕ). drop begin (take i moved)) k ∙ ap (drop begin) done in
    let size : unsigned_leb128 (to - begin) ≡ unsigned_leb128 (length (done_of bytes written from position) - begin) = ap (λ (i : ℕ). unsigned_leb128 (i - begin)) (sym len) in
    let whole : done_of sized new position position ≡ take mark (done_of bytes written from position) ++ (unsigned_leb128 (length (done_of bytes written from position) - begin) ++ drop begin (done_of bytes written from position)) =
    closed sized new position ∙ is ∙ rw (first, body, size) refl in
    let after : (i : ℕ) → position ≤ i → drop i sized ≡ drop i bytes = λ i far. later sized moved to i (omega arith) behind ∙ later moved bytes position i far left in
    rw (whole, after position (omega arith), after end fits) refl

pub length_all : (bytes : List ℕ) (written from position end : ℕ) (s : Bool) (g : GName) → written ≤ from → from ≤ position → position ≤ length bytes → (r : Rewriting) → seen bytes written from position end s g ≡ r → length r.done ≡ written + (position - from)
length_all bytes written from position end s g gap run fits r is = ap (λ (q : Rewriting). length q.done) (sym is) ∙ length_done bytes written from position gap run fits

-- ---- a size is written before what it counts

pub record SizeWritten (old new digits : List ℕ) (start begin end to : ℕ) : Type 0 where
  pub done : take to new ≡ take start old ++ (digits ++ take (end - begin) (drop begin old))
  pub left : drop end new ≡ drop end old

pub size_written : (old over new digits : List ℕ) (start size begin end to : ℕ) → size ≡ length digits → start + size ≤ begin → begin ≤ end → end ≤ length old → over ≡ take start old ++ (digits ++ drop (start + size) old)
    → take to new ≡ done_of over (start + size) begin end → drop end new ≡ drop end over → SizeWritten old new digits start begin end to
size_written old over new digits start size begin end to size-is le order fits over-is done left =
    let front = take start old ++ digits in
    let whole : over ≡ front ++ drop (start + size) old = over-is ∙ sym (append_assoc (take start old) digits (drop (start + size) old)) in
    let front-long : length front ≡ start + size = omega (arith, length-append (take start old) digits, length-take-le start old (omega arith), size-is) in
    let first : take (start + size) over ≡ front = ap (take (start + size)) whole ∙ take_at front (drop (start + size) old) (start + size) front-long in
    let behind : drop (start + size) over ≡ drop (start + size) old = ap (drop (start + size)) whole ∙ drop_at front (drop (start + size) old) (start + size) front-long in
    let on : drop begin over ≡ drop begin old = later over old (start + size) begin le behind in
    record {
      done = done ∙ rw (first, on) (append_assoc (take start old) digits (take (end - begin) (drop begin old)));
      left = left ∙ later over old (start + size) end (omega arith) behind;
    }

-- ---- bytes that are where they are to be

pub already_there : (xs : List ℕ) (start end dest : ℕ) → dest ≤ start → start ≤ dest → xs ≡ paste xs dest (drop start xs) (end - start)
already_there xs start end dest down up =
    let same : dest ≡ start = omega arith in
    rw same (sym (take-append-drop (start + (end - start)) xs) ∙ ap (λ (t : List ℕ). t ++ drop (start + (end - start)) xs) (take-add start (end - start) xs))

-- Values that are made of scanned ones: as a whole, or one after the other.
use Rattle.std.proofs.Common.{◌≡◌, ℕ, zero, suc, ◌+◌, ◌-◌, List, [], ◌∷◌, length, get_or, take, take_all, drop, drop-drop, length-drop, Option, Some, None, refl, subst, arith}
use Rattle.wasm_codec.specs.Scanning.{Scans}
use Rattle.wasm_codec.specs.declared.rewriter.scan.Scanned.{Scanned}
use Rattle.wasm_codec.specs.declared.rewriter.scan.Scanned.TheVariants as scanned
use Rattle.wasm_codec.specs.declared.rewriter.scan.Scanned.TheVariants.{Minimal}
use Rattle.wasm_codec.specs.formats.Combinators.{Format, ◌⊗◌, made}

pub made_scanned : {A B : Type 0} (make : A → B) (parts : B → Option A) (F : Format A) → ((a : A) → parts (make a) ≡ Some a) → (bytes : List ℕ) (r : Option Scanned) → Scans F bytes r → Scans (made make parts F) bytes r
made_scanned make parts F back bytes None b = tt
made_scanned make parts F back bytes (Some (scanned.Minimal count)) (le, x) = (le, (make x.0, rw x.1 refl))
made_scanned make parts F back bytes (Some (scanned.Padded signed start more)) (le, told) =
    (le, λ kept k. let p = told kept k in record { value = make p.value; read = rw p.read refl; minimal = rw (back p.value) p.minimal })

pub pair_scanned : {A B : Type 0} (F : Format A) (G : Format B) (bytes : List ℕ) (m n : ℕ) → Scans F bytes (Some (Minimal m)) → Scans G (drop m bytes) (Some (Minimal n)) → Scans (F ⊗ G) bytes (Some (Minimal (m + n)))
pair_scanned F G bytes m n a b =
    let left : drop n (drop m bytes) ≡ drop (m + n) bytes = drop-drop n m bytes in
    (omega (arith, a.0, b.0, length-drop m bytes), ((a.1.0, b.1.0), rw (a.1.1, b.1.1, left) refl))

-- ---- places in the bytes

pub get_dropped : (count : ℕ) (bytes : List ℕ) → get_or (drop count bytes) 0 0 ≡ get_or bytes count 0
get_dropped zero bytes = refl
get_dropped (suc count) [] = refl
get_dropped (suc count) (b ∷ bytes) = get_dropped count bytes

-- the bytes from a start on
pub from_start : {V : Type 0} (F : Format V) (bytes : List ℕ) (start count : ℕ) → Scans F (take (length bytes - start) (drop start bytes)) (Some (Minimal count)) → Scans F (drop start bytes) (Some (Minimal count))
from_start F bytes start count r = subst (λ (l : List ℕ). Scans F l (Some (Minimal count))) (take_all (length bytes - start) (drop start bytes) (omega (arith, length-drop start bytes))) r

-- The values that are read from a body after its size.
use Rattle.std.proofs.Common.{◌≡◌, ℕ, true, List, [], Option, Some, None, Err, refl, ap}
use Rattle.wasm_codec.specs.declared.reader.cursor.Fault.{Fault}
use Rattle.wasm_codec.specs.declared.reader.cursor.Fault.TheVariants as faults
use Rattle.wasm_codec.specs.Places.{Place, place, Reader, Reads}
use Rattle.wasm_codec.specs.formats.Combinators.{Format, ◌⊗◌, made}
use Rattle.wasm_codec.specs.formats.Bodies.{at_end, body_at, sized}

-- ---- reading

-- what wasn't read because a part of it wasn't
pub fault_of_part : {A B : Type 0} (read : Reader A) (whole : Reader B) (p q old new : Place) (fault : Fault) → Reads read p q (Err fault) → (read p ≡ None → whole old ≡ None) → Reads whole old new (Err fault)
fault_of_part read whole p q old new faults.Memory none is = tt
fault_of_part read whole p q old new (faults.Malformed m) none is = is none

pub made_read : {A B : Type 0} (make : A → B) (parts : B → Option A) (F : Format A) (p q : Place) (a : A) → F.at p ≡ Some (a, q) → (made make parts F).at p ≡ Some (make a, q)
made_read make parts F p q a e = rw e refl

pub made_none : {A B : Type 0} (make : A → B) (parts : B → Option A) (F : Format A) (p : Place) → F.at p ≡ None → (made make parts F).at p ≡ None
made_none make parts F p e = rw e refl

pub both_read : {A B : Type 0} (F : Format A) (G : Format B) (p mid q : Place) (a : A) (b : B) → F.at p ≡ Some (a, mid) → G.at mid ≡ Some (b, q) → (F ⊗ G).at p ≡ Some ((a, b), q)
both_read F G p mid q a b e f = rw (e, f) refl

pub first_none : {A B : Type 0} (F : Format A) (G : Format B) (p : Place) → F.at p ≡ None → (F ⊗ G).at p ≡ None
first_none F G p e = rw e refl

pub second_none : {A B : Type 0} (F : Format A) (G : Format B) (p mid : Place) (a : A) → F.at p ≡ Some (a, mid) → G.at mid ≡ None → (F ⊗ G).at p ≡ None
second_none F G p mid a e f = rw (e, f) refl

pub sized_read : {A : Type 0} (F : Format A) (old outer end : Place) (body : List ℕ) (v : A) → body_at old ≡ Some (body, outer) → F.at (place outer.minimal body) ≡ Some (v, end) → end.left ≡ [] → (sized F).at old ≡ Some (v, place end.minimal outer.left)
sized_read F old outer end body v b e none =
    let all : at_end end.left ≡ true = ap at_end none in
    rw (b, e, all) refl

pub size_none : {A : Type 0} (F : Format A) (old : Place) → body_at old ≡ None → (sized F).at old ≡ None
size_none F old b = rw b refl

pub sized_none : {A : Type 0} (F : Format A) (old outer : Place) (body : List ℕ) → body_at old ≡ Some (body, outer) → F.at (place outer.minimal body) ≡ None → (sized F).at old ≡ None
sized_none F old outer body b e = rw (b, e) refl

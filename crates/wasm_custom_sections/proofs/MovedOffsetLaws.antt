-- The laws of branch hints that move with their instructions, in one function.
use Rattle.std.specs.Borrow.{GName}
use Rattle.std.proofs.Common.{◌≡◌, ◌∙◌, ℕ, zero, suc, ◌+◌, ◌-◌, ◌<◌, ◌≤◌, Bool, true, false, nat_eq, List, [], ◌∷◌, ◌++◌, length, length-take, take, drop, get_or, Option, Some, None, Result, Ok, Err, IfOk, refl, sym, ap, subst, append_assoc, length-append, arith}
use Rattle.std.proofs.Math.Seq.{take-add, take-append_seam}
use Rattle.std.proofs.lemmas.Bool.{eqb-true}
use Rattle.std.proofs.lemmas.Grind.{flat_map-append}
use Rattle.std.proofs.lemmas.List.{append-nil, append_cancel_left, take-append-drop, take_at, take_more}
use Rattle.std.specs.Prelude.{IfNone}
use Rattle.std.specs.List.{AllByRecursion, flat_map}
use Rattle.wasm_codec.specs.declared.reader.cursor.Fault.{Fault}
use Rattle.wasm_codec.specs.declared.reader.cursor.Fault.TheVariants as faults
use Rattle.wasm_codec.specs.Outcomes.{IsNormalForm}
use Rattle.wasm_codec.specs.Places.{place}
use Rattle.wasm_codec.specs.Reading.{BeginsWith}
use Rattle.wasm_codec.specs.Rewriter.{Rewrites, Rewriting, rest_of, rewriting, rewriting_after}
use Rattle.wasm_codec.specs.formats.Bodies.{to_end}
use Rattle.wasm_codec.specs.formats.Combinators.{items}
use Rattle.wasm_codec.specs.formats.Grammar.{Grammar, IsBytes, Joined}
use Rattle.wasm_codec.proofs.BodyLaws.{encodes_one}
use Rattle.wasm_codec.proofs.FormatLaws.{Lawful-items, not_longer}
use Rattle.wasm_codec.proofs.Joining.{Joined-split}
use Rattle.wasm_codec.proofs.Laws.{one_reading}
use Rattle.wasm_codec.proofs.PlaceLists.{plain_reads}
use Rattle.wasm_codec.proofs.RewriterLaws.{is_after}
use Rattle.wasm_codec.proofs.Shortening.{takes_some}
use Rattle.wasm_types.specs.declared.types.value.ValType.{ValType}
use Rattle.wasm_instructions.specs.formats.Instructions.{Instruction, instruction}
use Rattle.wasm_instructions.proofs.InstructionFormatLaws.{Lawful-instruction, instruction_takes}
use Rattle.wasm_code.specs.formats.CodeBodies.{function_code, local_group}
use Rattle.wasm_code.proofs.CodeBodyLaws.{Lawful-function-code, Lawful-local-group}
use Rattle.wasm_custom_sections.specs.MovedOffsets.{AreLocals, BeginsAt, Code, Each, IsFront, IsFrontUpTo, MovesHint, MovesOffset, NoInstructionAt, more, none}
use Rattle.wasm_custom_sections.specs.declared.branch_hints.BranchHint.{BranchHint}
use Rattle.wasm_custom_sections.specs.declared.moved_hints.offsets.Front.{Front}
use Rattle.wasm_custom_sections.specs.formats.BranchHints.{hint_of}

-- ---- lists in a relation

pub each_end : {A : Type 0} {R : A → A → Type 0} {xs ys : List A} (x y : A) → Each R xs ys → R x y → Each R (xs ++ x ∷ []) (ys ++ y ∷ [])
each_end x y none r = more r none
each_end x y (more s rest) r = more s (each_end x y rest r)

-- one more pair, as a loop over a slice finds it
pub each_more : {A : Type 0} (R : A → A → Type 0) (xs ys : List A) (i : ℕ) (d y : A) → i < length xs → Each R (take i xs) ys → R (get_or xs i d) y → Each R (take (i + 1) xs) (ys ++ y ∷ [])
each_more {A} R xs ys i d y lt so_far r = subst (λ (l : List A). Each R l (ys ++ y ∷ [])) (sym (take_more xs i d lt)) (each_end (get_or xs i d) y so_far r)

pub each_length : {A : Type 0} {R : A → A → Type 0} {xs ys : List A} → Each R xs ys → length ys ≡ length xs
each_length none = refl
each_length (more r rest) = ap suc (each_length rest)

-- the first pair, and the others
pub record First {A : Type 0} (R : A → A → Type 0) (x : A) (xs ys : List A) : Type 0 where
  pub other : A
  pub others : List A
  pub are : ys ≡ other ∷ others
  pub first : R x other
  pub rest : Each R xs others

pub first_pair : {A : Type 0} {R : A → A → Type 0} {x : A} {xs ys : List A} → Each R (x ∷ xs) ys → First R x xs ys
first_pair (more {y = y} {ys = ys} r rest) = record { other = y; others = ys; are = refl; first = r; rest = rest }

no_pair : {A : Type 0} {R : A → A → Type 0} {ys : List A} → Each R [] ys → ys ≡ []
no_pair none = refl

-- a list has at most one other if an item has at most one
pub each_one : {A : Type 0} {R : A → A → Type 0} → ((x y z : A) → R x y → R x z → y ≡ z) → (xs ys zs : List A) → Each R xs ys → Each R xs zs → ys ≡ zs
each_one one [] ys zs a b = no_pair a ∙ sym (no_pair b)
each_one {A} {R} one (x ∷ xs) ys zs a b =
    let p = first_pair a in
    let q = first_pair b in
    p.are ∙ ap (λ (t : A). t ∷ p.others) (one x p.other q.other p.first q.first) ∙ ap (λ (l : List A). q.other ∷ l) (each_one one xs p.others q.others p.rest q.rest) ∙ sym q.are

-- the item at an index has another
pub each_at : {A : Type 0} {R : A → A → Type 0} (xs ys : List A) (i : ℕ) (d : A) → Each R xs ys → i < length xs → (y : A) × R (get_or xs i d) y
each_at [] ys i d all lt = absurd (omega (arith, lt))
each_at (x ∷ xs) ys zero d all lt = let p = first_pair all in (p.other, p.first)
each_at (x ∷ xs) ys (suc i) d all lt = let p = first_pair all in each_at xs p.others i d p.rest (omega (arith, lt))

-- what holds of each item makes a property of each other
pub each_fits : {A : Type 0} {R : A → A → Type 0} (P Q : A → Type 0) {xs ys : List A} → ((x y : A) → P x → R x y → Q y) → AllByRecursion P xs → Each R xs ys → AllByRecursion Q ys
each_fits P Q keeps all none = tt
each_fits P Q keeps all (more {x = x} {y = y} r rest) = (keeps x y all.0 r, each_fits P Q keeps all.1 rest)

-- ---- an instruction that both have

Joined-append : {V : Type 0} (G : Grammar V) (a b : List ℕ) (vs ws : List V) → Joined G a vs → Joined G b ws → Joined G (a ++ b) (vs ++ ws)
Joined-append {V} G a b [] ws g h = subst (λ (t : List ℕ). Joined G (t ++ b) ws) (sym g) h
Joined-append G a b (v ∷ vs) ws g h =
    (g.0, g.1 ++ b, ap (λ (t : List ℕ). t ++ b) g.2 ∙ append_assoc g.0 g.1 b, g.3, Joined-append G g.1 b vs ws g.4 h)

-- what bytes encode has a minimal encoding with some bytes
some_left : (back : List ℕ) (calls : List Instruction) → Joined instruction.Encodes back calls → 0 < length back → 0 < length (flat_map instruction.bytes calls)
some_left back [] g some = absurd (omega (arith, some, ap (length {A = ℕ}) g))
some_left back (v ∷ vs) g some =
    omega (arith, takes_some instruction.Encodes instruction_takes (instruction.bytes v) v (Lawful-instruction.minimal.again g.0 v g.3), length-append (instruction.bytes v) (flat_map instruction.bytes vs))

module _ (body front rest : List ℕ) (code : Code) (parts : body ≡ front ++ rest) (encodes : function_code.Encodes front code) (goes_on : 0 < length rest) where
  stands : (all : Code) → function_code.Encodes body all → BeginsAt (function_code.bytes all) (length code.1) (length (function_code.bytes code))
  stands all g =
      let row : encodes.0 ++ (encodes.1 ++ rest) ≡ g.0 ++ g.1 = sym (append_assoc encodes.0 encodes.1 rest) ∙ ap (λ (t : List ℕ). t ++ rest) (sym encodes.2) ∙ sym parts ∙ g.2 in
      let one = one_reading (plain_reads (Lawful-items Lawful-local-group).reads) encodes.0 g.0 (encodes.1 ++ rest) g.1 code.0 all.0 encodes.3 g.3 row in
      let back : length g.1 ≡ length encodes.1 + length rest = ap (length {A = ℕ}) (sym one.2) ∙ length-append encodes.1 rest in
      let s = Joined-split (plain_reads Lawful-instruction.reads) instruction_takes encodes.1 g.1 rest [] code.1 all.1 encodes.4 g.4 (one.2 ∙ sym (append-nil g.1)) (omega (arith, back)) in
      let left : 0 < length s.back = omega (arith, goes_on, back, ap (length {A = ℕ}) s.bytes, length-append encodes.1 s.back) in
      let locals = (items local_group).bytes in
      let calls = flat_map instruction.bytes in
      let are : function_code.bytes all ≡ function_code.bytes code ++ calls s.more = ap (λ (l : List (ℕ × ValType)). locals l ++ calls all.1) (sym one.1)
      ∙ ap (λ (c : List Instruction). locals code.0 ++ calls c) s.items
      ∙ ap (λ (t : List ℕ). locals code.0 ++ t) (flat_map-append instruction.bytes code.1 s.more)
      ∙ sym (append_assoc (locals code.0) (calls code.1) (calls s.more)) in
      record {
        locals = code.0;
        before = code.1;
        front = function_code.bytes code;
        rest = calls s.more;
        parts = are;
        encodes = Lawful-function-code.minimal.again front code encodes;
        counts = refl;
        offset_is = refl;
        goes_on = some_left s.back s.more s.encodes left;
      }

  both : MovesOffset body (length front) (length (function_code.bytes code))
  both = record {
    number = length code.1;
    new_is = refl;
    stood = record { locals = code.0; before = code.1; front = front; rest = rest; parts = parts; encodes = encodes; counts = refl; offset_is = refl; goes_on = goes_on };
    stands = stands;
  }

length-take-within : (n : ℕ) (xs : List ℕ) → n ≤ length xs → length (take n xs) ≡ n
length-take-within n xs le = omega (arith, ap (length {A = ℕ}) (take-append-drop n xs), length-append (take n xs) (drop n xs), length-take n xs)

pub offset_moved : (body : List ℕ) (offset : ℕ) (front : Front) → IsFrontUpTo body offset front → MovesOffset body offset front.minimal
offset_moved body offset front h =
    let f = h.front_is in
    let start = take front.len body in
    let cut = take-append-drop front.len body in
    let len : length start ≡ front.len = length-take-within front.len body f.within in
    let rest : 0 < length (drop front.len body) = omega (arith, h.goes_on, h.len_is, len, ap (length {A = ℕ}) cut, length-append start (drop front.len body)) in
    let moved = both body start (drop front.len body) f.code (sym cut) f.encodes rest in
    subst (λ (n : ℕ). MovesOffset body n front.minimal) (len ∙ h.len_is) (subst (MovesOffset body (length start)) f.minimal_is moved)

pub hint_moved : (body : List ℕ) (old new : BranchHint) (front : Front) → IsFrontUpTo body old.branch_func_offset front → front.minimal ≡ new.branch_func_offset → new.likely ≡ old.likely → MovesHint body old new
hint_moved body old new front h is same = record { same = same; offset = subst (MovesOffset body old.branch_func_offset) is (offset_moved body old.branch_func_offset front h) }

-- if there is none, another property holds
pub none_if : {X E A B : Type 0} (result : Result (Option X) E) → IfOk result (λ found. IfNone found A) → (A → B) → IfOk result (λ found. IfNone found B)
none_if (Ok None) missing make = make missing
none_if (Ok (Some x)) missing make = tt
none_if (Err e) missing make = tt

-- ---- at most one offset

-- what precedes the instruction at an offset
begins_one : (body : List ℕ) (offset n m : ℕ) (a : BeginsAt body n offset) (b : BeginsAt body m offset) → ◌≡◌ {A = Code} (a.locals, a.before) (b.locals, b.before)
begins_one body offset n m a b =
    let one : take offset body ≡ a.front = ap (take offset) a.parts ∙ take_at a.front a.rest offset a.offset_is in
    let other : take offset body ≡ b.front = ap (take offset) b.parts ∙ take_at b.front b.rest offset b.offset_is in
    encodes_one Lawful-function-code a.front (a.locals, a.before) (b.locals, b.before) a.encodes (subst (λ (t : List ℕ). function_code.Encodes t (b.locals, b.before)) (sym other ∙ one) b.encodes)

offset_one : (body : List ℕ) (old new other : ℕ) → MovesOffset body old new → MovesOffset body old other → new ≡ other
offset_one body old new other a b = sym a.new_is ∙ ap (λ (c : Code). length (function_code.bytes c)) (begins_one body old a.number b.number a.stood b.stood) ∙ b.new_is

pub hint_one : (body : List ℕ) (old new other : BranchHint) → MovesHint body old new → MovesHint body old other → new ≡ other
hint_one body old new other a b =
    ap (λ (n : ℕ). hint_of (n, new.likely)) (offset_one body old.branch_func_offset new.branch_func_offset other.branch_func_offset a.offset b.offset)
    ∙ ap (λ (l : Bool). hint_of (other.branch_func_offset, l)) (a.same ∙ sym b.same)

-- ---- no instruction at an offset

pub starts_within : (body : List ℕ) (number offset : ℕ) → BeginsAt body number offset → offset < length body
starts_within body number offset b = omega (arith, b.goes_on, b.offset_is, ap (length {A = ℕ}) b.parts, length-append b.front b.rest)

-- the instructions between the first bytes of a body and an instruction
record Between (segment : List ℕ) : Type 0 where
  pub calls : List Instruction
  pub encodes : Joined instruction.Encodes segment calls

between : (body : List ℕ) (front : Front) (number offset : ℕ) → IsFront body front → BeginsAt body number offset → front.len ≤ offset → Between (take (offset - front.len) (drop front.len body))
between body front number offset f b le =
    let g = f.encodes in
    let h = b.encodes in
    let start = take front.len body in
    let left = drop front.len body in
    let row : g.0 ++ (g.1 ++ left) ≡ h.0 ++ (h.1 ++ b.rest) = sym (append_assoc g.0 g.1 left) ∙ ap (λ (t : List ℕ). t ++ left) (sym g.2) ∙ take-append-drop front.len body ∙ b.parts ∙ ap (λ (t : List ℕ). t ++ b.rest) h.2 ∙ append_assoc h.0 h.1 b.rest in
    let one = one_reading (plain_reads (Lawful-items Lawful-local-group).reads) g.0 h.0 (g.1 ++ left) (h.1 ++ b.rest) f.code.0 b.locals g.3 h.3 row in
    let len : length g.0 + length g.1 ≡ front.len = omega (arith, length-take-within front.len body f.within, ap (length {A = ℕ}) g.2, length-append g.0 g.1) in
    let far : length g.0 + length h.1 ≡ offset = omega (arith, ap (length {A = ℕ}) one.0, b.offset_is, ap (length {A = ℕ}) h.2, length-append h.0 h.1) in
    let s = Joined-split (plain_reads Lawful-instruction.reads) instruction_takes g.1 h.1 left b.rest f.code.1 b.before g.4 h.4 one.2 (omega (arith, len, far, le)) in
    let after : left ≡ s.back ++ b.rest = append_cancel_left g.1 left (s.back ++ b.rest) (one.2 ∙ ap (λ (t : List ℕ). t ++ b.rest) s.bytes ∙ append_assoc g.1 s.back b.rest) in
    let size : length s.back ≡ offset - front.len = omega (arith, len, far, ap (length {A = ℕ}) s.bytes, length-append g.1 s.back) in
    let segment : take (offset - front.len) left ≡ s.back = ap (take (offset - front.len)) after ∙ take_at s.back b.rest (offset - front.len) size in
    record { calls = s.more; encodes = subst (λ (t : List ℕ). Joined instruction.Encodes t s.more) (sym segment) s.encodes }

-- what follows the first bytes encodes no instructions
pub none_between : (body segment : List ℕ) (front : Front) (offset : ℕ) → IsFront body front → segment ≡ take (offset - front.len) (drop front.len body) → ((calls : List Instruction) → Joined instruction.Encodes segment calls → ⊥) → front.len ≤ offset → NoInstructionAt body offset
none_between body segment front offset f is malformed le = λ number b.
    let g = between body front number offset f b le in
    malformed g.calls (subst (λ (t : List ℕ). Joined instruction.Encodes t g.calls) (sym is) g.encodes)

-- a hint that can't be moved
pub no_hint : (body : List ℕ) (hints : List BranchHint) (i : ℕ) (d : BranchHint) → i < length hints → NoInstructionAt body (get_or hints i d).branch_func_offset → (moved : List BranchHint) → Each (MovesHint body) hints moved → ⊥
no_hint body hints i d lt missing moved all =
    let one = each_at hints moved i d all lt in
    missing one.1.offset.number one.1.offset.stood

pub no_first_hint : (body : List ℕ) (hints : List BranchHint) → nat_eq (length hints) 0 ≡ false → ((offset : ℕ) → NoInstructionAt body offset) → (moved : List BranchHint) → Each (MovesHint body) hints moved → ⊥
no_first_hint body [] some missing moved all = absurd cc
no_first_hint body (h ∷ hints) some missing moved all =
    let one = first_pair all in
    missing h.branch_func_offset one.first.offset.number one.first.offset.stood

pub no_hints : (body : List ℕ) (hints moved : List BranchHint) → nat_eq (length hints) 0 ≡ true → moved ≡ [] → Each (MovesHint body) hints moved
no_hints body [] moved empty is = subst (Each (MovesHint body) []) (sym is) none
no_hints body (h ∷ hints) moved empty is = absurd (omega (arith, eqb-true (length (h ∷ hints)) 0 empty))

-- the locals are malformed
pub no_locals : (body copy : List ℕ) (old new : Rewriting) (fault : Fault) {name : GName} → old ≡ rewriting [] (place true copy) (rest_of [] name) → copy ≡ body → Rewrites (items local_group) old new (Err fault) → (offset : ℕ) → NoInstructionAt body offset
no_locals body copy old new faults.Memory begun same missing = absurd missing
no_locals body copy old new (faults.Malformed m) begun same missing = λ offset number b.
    let h = b.encodes in
    let row : body ≡ h.0 ++ (h.1 ++ b.rest) = b.parts ∙ ap (λ (t : List ℕ). t ++ b.rest) h.2 ∙ append_assoc h.0 h.1 b.rest in
    let there : old.place ≡ place true (h.0 ++ (h.1 ++ b.rest)) = ap (λ (r : Rewriting). r.place) begun ∙ ap (λ (l : List ℕ). place true l) (same ∙ row) in
    let read = ap (items local_group).at there ∙ (Lawful-items Lawful-local-group).reads.complete h.0 b.locals (h.1 ++ b.rest) true h.3 in
    clash ((items local_group).at old.place) _ missing read
  where
    clash : {A : Type 0} (o : Option A) (x : A) → o ≡ None → o ≡ Some x → ⊥
    clash o x e f = absurd cc

-- ---- the first bytes of a body

-- the locals
module _ (body copy : List ℕ) (old new : Rewriting) (fits : IsBytes old.place.left) {name : GName} (begun : old ≡ rewriting [] (place true copy) (rest_of [] name)) (same : copy ≡ body) (e : rewriting_after (items local_group) old ≡ Some new) where
  begins : BeginsWith (items local_group).Encodes body (is_after (items local_group) old new e).value new.place.left
  begins =
      let one = is_after (items local_group) old new e in
      let left : old.place.left ≡ body = ap (λ (r : Rewriting). r.place.left) begun ∙ same in
      subst (λ (l : List ℕ). BeginsWith (items local_group).Encodes l one.value new.place.left) left ((Lawful-items Lawful-local-group).reads.sound old.place one.value new.place fits one.given.is_read)

  pub locals_within : length new.place.left ≤ length body
  locals_within = omega (arith, ap (length {A = ℕ}) begins.parts, length-append begins.prefix new.place.left)

  locals_are : (left len minimal : ℕ) → left ≡ length new.place.left → len ≡ length body - left → minimal ≡ length new.done → IsFront body (record { len = len; minimal = minimal })
  locals_are left len minimal left-is len-is minimal-is =
      let one = is_after (items local_group) old new e in
      let b = begins in
      let code : Code = (one.value, []) in
      let whole : length body ≡ length b.prefix + length new.place.left = ap (length {A = ℕ}) b.parts ∙ length-append b.prefix new.place.left in
      let at : len ≡ length b.prefix = omega (arith, left-is, len-is, whole) in
      let start : take len body ≡ b.prefix = ap (λ (n : ℕ). take n body) at ∙ ap (take (length b.prefix)) b.parts ∙ take-append_seam b.prefix new.place.left in
      let encodes : function_code.Encodes b.prefix code = (b.prefix, [], sym (append-nil b.prefix), b.encodes, refl) in
      let wrote : new.done ≡ (items local_group).bytes one.value = one.given.written ∙ ap (λ (r : Rewriting). r.done ++ (items local_group).bytes one.value) begun in
      let short = not_longer b.prefix (function_code.bytes code) (Lawful-function-code.minimal.least b.prefix code encodes) in
      let is : length (function_code.bytes code) ≡ minimal = ap (length {A = ℕ}) (append-nil ((items local_group).bytes one.value) ∙ sym wrote) ∙ sym minimal-is in
      record {
        code = code;
        within = omega (arith, at, whole);
        encodes = subst (λ (t : List ℕ). function_code.Encodes t code) (sym start) encodes;
        minimal_is = is;
        no_longer = omega (arith, short, is, at);
      }

  pub locals_first : (left len : ℕ) → left ≡ length new.place.left → len ≡ length body - left → (number offset : ℕ) → BeginsAt body number offset → len ≤ offset
  locals_first left len left-is len-is number offset b =
      let one = is_after (items local_group) old new e in
      let l = begins in
      let h = b.encodes in
      let row : l.prefix ++ new.place.left ≡ h.0 ++ (h.1 ++ b.rest) = sym l.parts ∙ b.parts ∙ ap (λ (t : List ℕ). t ++ b.rest) h.2 ∙ append_assoc h.0 h.1 b.rest in
      let same = one_reading (plain_reads (Lawful-items Lawful-local-group).reads) l.prefix h.0 new.place.left (h.1 ++ b.rest) one.value b.locals l.encodes h.3 row in
      omega (arith, left-is, len-is, ap (length {A = ℕ}) l.parts, length-append l.prefix new.place.left, ap (length {A = ℕ}) same.0, b.offset_is, ap (length {A = ℕ}) h.2, length-append h.0 h.1)

  pub are_locals : (left len minimal : ℕ) → left ≡ length new.place.left → len ≡ length body - left → minimal ≡ length new.done → AreLocals body (record { len = len; minimal = minimal })
  are_locals left len minimal left-is len-is minimal-is = record { front_is = locals_are left len minimal left-is len-is minimal-is; first = locals_first left len left-is len-is }

-- the same and more instructions
pub front_goes_on : (body segment encoding : List ℕ) (front : Front) (len count : ℕ) → count ≡ length encoding → IsFront body front → front.len ≤ len → len < length body → segment ≡ take (len - front.len) (drop front.len body)
    → IsNormalForm (to_end instruction).Encodes (to_end instruction).bytes segment encoding → IsFrontUpTo body len (record { len = len; minimal = front.minimal + count })
front_goes_on body segment encoding front len count counted f le lt is n =
    let g = f.encodes in
    let code : Code = (f.code.0, f.code.1 ++ n.value) in
    let locals = (items local_group).bytes f.code.0 in
    let calls = flat_map instruction.bytes in
    let cut : len ≡ front.len + (len - front.len) = omega (arith, le) in
    let start : take len body ≡ take front.len body ++ segment = ap (λ (k : ℕ). take k body) cut ∙ take-add front.len (len - front.len) body ∙ ap (λ (t : List ℕ). take front.len body ++ t) (sym is) in
    let parts : take len body ≡ g.0 ++ (g.1 ++ segment) = start ∙ ap (λ (t : List ℕ). t ++ segment) g.2 ∙ append_assoc g.0 g.1 segment in
    let encodes : function_code.Encodes (take len body) code = (g.0, g.1 ++ segment, parts, g.3, Joined-append instruction.Encodes g.1 segment f.code.1 n.value g.4 n.encoded) in
    let all : function_code.bytes code ≡ function_code.bytes f.code ++ encoding = ap (λ (t : List ℕ). locals ++ t) (flat_map-append instruction.bytes f.code.1 n.value)
    ∙ sym (append_assoc locals (calls f.code.1) (calls n.value)) ∙ ap (λ (t : List ℕ). (locals ++ calls f.code.1) ++ t) (sym n.is_minimal) in
    let minimal : length (function_code.bytes code) ≡ front.minimal + count = ap (length {A = ℕ}) all ∙ length-append (function_code.bytes f.code) encoding ∙ omega (arith, f.minimal_is, counted) in
    let short = not_longer (take len body) (function_code.bytes code) (Lawful-function-code.minimal.least (take len body) code encodes) in
    let within : length (take len body) ≡ len = length-take-within len body (omega (arith, lt)) in
    record {
      front_is = record { code = code; within = omega (arith, lt); encodes = encodes; minimal_is = minimal; no_longer = omega (arith, short, minimal, within) };
      len_is = refl;
      goes_on = lt;
    }

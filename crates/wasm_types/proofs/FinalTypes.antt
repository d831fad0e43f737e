-- Final subtypes whose list of supertypes is written: if it is empty, their byte and the list are left out.
use Rattle.std.proofs.Common.{◌≡◌, ℕ, ◌+◌, ◌-◌, ◌≤◌, Bool, true, false, not, ◌&&◌, List, [], ◌∷◌, ◌++◌, length, take, drop, Some, refl, sym, ap, subst, ◌∙◌, append_assoc, length-append, arith}
use Rattle.std.proofs.lemmas.List.{take_at, drop_at}
use Rattle.std.specs.List.{flat_map}
use Rattle.wasm_codec.specs.Leb128.{unsigned_leb128, digits_of}
use Rattle.wasm_codec.specs.Places.{Place, place, byte_at, unless}
use Rattle.wasm_codec.specs.Rewriter.{Rewriting, rewritten_at, rewriting_after, without}
use Rattle.wasm_codec.specs.formats.Combinators.{a_byte, items, u32}
use Rattle.wasm_codec.proofs.Laws.{some_is}
use Rattle.wasm_codec.proofs.RewriterLaws.{is_given, is_after, after_is}
use Rattle.wasm_codec.proofs.Digits.{some_digits}
use Rattle.wasm_types.specs.declared.types.composite.CompositeType.{CompositeType}
use Rattle.wasm_types.specs.formats.Types.{composite_type, sub_of, sub_type}
use Rattle.wasm_types.specs.TypeParts.{has_supertypes}

unless_true : (p : Place) → unless true p ≡ place false p.left
unless_true p = ap (λ (s : Bool). place s p.left) (and_false p.minimal) where
  and_false : (b : Bool) → (b && false) ≡ false
  and_false true = refl
  and_false false = refl

unless_false : (p : Place) → unless false p ≡ p
unless_false p = ap (λ (s : Bool). place s p.left) (and_true p.minimal) where
  and_true : (b : Bool) → (b && true) ≡ b
  and_true true = refl
  and_true false = refl

some_bytes : (n : ℕ) → 1 ≤ length (unsigned_leb128 n)
unfolding unsigned_leb128
some_bytes n = omega (arith, some_digits false 128 9 n)

-- a list of one byte is empty
alone : (xs : List ℕ) → length ((items u32).bytes xs) ≡ 1 → xs ≡ []
alone [] e = refl
alone (x ∷ xs) e = absurd (omega (arith, some_bytes (length (x ∷ xs)), some_bytes x, length-append (unsigned_leb128 (length (x ∷ xs))) (unsigned_leb128 x ++ flat_map unsigned_leb128 xs), length-append (unsigned_leb128 x) (flat_map unsigned_leb128 xs)))

one_byte : length ((items u32).bytes []) ≡ 1
unfolding unsigned_leb128 digits_of
one_byte = refl

not_empty : (xs : List ℕ) → (length ((items u32).bytes xs) ≡ 1 → ⊥) → has_supertypes xs ≡ true
not_empty [] other = absurd (other one_byte)
not_empty (x ∷ xs) other = refl

-- what was read and written of one
record Final (old start supers end : Rewriting) : Type 0 where
  supertypes : List ℕ
  composite : CompositeType
  is_read : sub_type.at old.place ≡ Some (sub_of true (supertypes, composite), unless (not (has_supertypes supertypes)) end.place)
  written : end.done ≡ old.done ++ ((0x4f ∷ []) ++ ((items u32).bytes supertypes ++ composite_type.bytes composite))
  len : length supers.done ≡ length old.done + (1 + length ((items u32).bytes supertypes))
  rest : end.rest ≡ old.rest

final : (old start supers end : Rewriting) (b : ℕ) (after : Place) → byte_at old.place ≡ Some (0x4f, after) → rewritten_at a_byte old ≡ Some (b, start) → rewriting_after (items u32) start ≡ Some supers → rewriting_after composite_type supers ≡ Some end → Final old start supers end
unfolding sub_type
final old start supers end b after seen first list rest =
    let taken = is_given a_byte old b start first in
    let same : b ≡ 0x4f = ap (λ (x : ℕ × Place). x.0) (some_is (b, start.place) (0x4f, after) (sym taken.is_read ∙ seen)) in
    let a = is_given a_byte old 0x4f start (subst (λ (n : ℕ). rewritten_at a_byte old ≡ Some (n, start)) same first) in
    let l = is_after (items u32) start supers list in
    let c = is_after composite_type supers end rest in
    record {
      supertypes = l.value;
      composite = c.value;
      is_read = rw (a.is_read, l.given.is_read, c.given.is_read) refl;
      written = c.given.written ∙ ap (λ (t : List ℕ). t ++ composite_type.bytes c.value) (l.given.written ∙ ap (λ (t : List ℕ). t ++ (items u32).bytes l.value) a.written)
          ∙ regroup old.done (0x4f ∷ []) ((items u32).bytes l.value) (composite_type.bytes c.value);
      len = omega (arith, ap (length {A = ℕ}) l.given.written, length-append start.done ((items u32).bytes l.value), ap (length {A = ℕ}) a.written, length-append old.done (0x4f ∷ []));
      rest = c.given.rest ∙ l.given.rest ∙ a.rest;
    }
  where
    regroup : (d t l c : List ℕ) → ((d ++ t) ++ l) ++ c ≡ d ++ (t ++ (l ++ c))
    regroup d t l c = simp append_assoc

-- without supertypes both are left out
pub left_out : (old start supers end : Rewriting) (b : ℕ) (after : Place) (mark : ℕ) → byte_at old.place ≡ Some (0x4f, after) → rewritten_at a_byte old ≡ Some (b, start) → rewriting_after (items u32) start ≡ Some supers → rewriting_after composite_type supers ≡ Some end → mark ≡ length old.done → length supers.done - mark ≡ 2
    → rewriting_after sub_type old ≡ Some (without mark 2 end)
unfolding sub_type
left_out old start supers end b after mark seen first list rest at two =
    let f = final old start supers end b after seen first list rest in
    let none : f.supertypes ≡ [] = alone f.supertypes (omega (arith, f.len, at, two)) in
    let c = f.composite in
    let list_bytes = (items u32).bytes f.supertypes in
    let read : sub_type.at old.place ≡ Some (sub_of true ([], c), place false end.place.left) =
    f.is_read ∙ ap (λ (l : List ℕ). Some (sub_of true (l, c), unless (not (has_supertypes l)) end.place)) none ∙ ap (λ (p : Place). Some (sub_of true ([], c), p)) (unless_true end.place) in
    let one : length list_bytes ≡ 1 = omega (arith, f.len, at, two) in
    let front : take mark end.done ≡ old.done = ap (take mark) f.written ∙ take_at old.done ((0x4f ∷ []) ++ (list_bytes ++ composite_type.bytes c)) mark (sym at) in
    let back : drop (mark + 2) end.done ≡ composite_type.bytes c =
    ap (drop (mark + 2)) (f.written ∙ split old.done (0x4f ∷ []) list_bytes (composite_type.bytes c)) ∙ drop_at (old.done ++ ((0x4f ∷ []) ++ list_bytes)) (composite_type.bytes c) (mark + 2) (omega (arith, at, one, length-append old.done ((0x4f ∷ []) ++ list_bytes))) in
    after_is sub_type old (without mark 2 end) (sub_of true ([], c)) read (rw (front, back) refl) f.rest
  where
    split : (d t l c : List ℕ) → d ++ (t ++ (l ++ c)) ≡ (d ++ (t ++ l)) ++ c
    split d t l c = simp append_assoc

-- with some they stay
pub kept : (old start supers end : Rewriting) (b : ℕ) (after : Place) (mark : ℕ) → byte_at old.place ≡ Some (0x4f, after) → rewritten_at a_byte old ≡ Some (b, start) → rewriting_after (items u32) start ≡ Some supers → rewriting_after composite_type supers ≡ Some end → mark ≡ length old.done → (length supers.done - mark ≡ 2 → ⊥)
    → rewriting_after sub_type old ≡ Some end
unfolding sub_type
kept old start supers end b after mark seen first list rest at more =
    let f = final old start supers end b after seen first list rest in
    let some : has_supertypes f.supertypes ≡ true = not_empty f.supertypes (λ e. more (omega (arith, f.len, at, e))) in
    let value = sub_of true (f.supertypes, f.composite) in
    let read : sub_type.at old.place ≡ Some (value, end.place) = f.is_read ∙ ap (λ (b : Bool). Some (value, unless (not b) end.place)) some ∙ ap (λ (p : Place). Some (value, p)) (unless_false end.place) in
    let bytes : sub_type.bytes value ≡ (0x4f ∷ []) ++ ((items u32).bytes f.supertypes ++ composite_type.bytes f.composite) = rw some refl in
    after_is sub_type old end value read (f.written ∙ ap (λ (t : List ℕ). old.done ++ t) (sym bytes)) f.rest

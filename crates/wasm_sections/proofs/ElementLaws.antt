-- The laws of element segments, and what is read, rewritten and written of them.
use Rattle.std.proofs.Common.{◌≡◌, None, ℕ, zero, suc, ◌<◌, ◌≤◌, Bool, true, false, eqb, cond, ◌&&◌, List, ◌++◌, length, length-append, refl, sym, ap, subst, ◌∙◌, lit≤, arith, Option, Some, ◌+◌, ◌%◌, ◌/◌, nat_lt, if◌then◌else◌, [], ◌∷◌, take, drop, append_assoc, length-take-le, length-drop, ◌^◌}
use Rattle.std.proofs.lemmas.Bool.{eqb-true}
use Rattle.std.proofs.lemmas.List.{take_at, drop_at, set_at}
use Rattle.std.specs.Prelude.{is_some}
use Rattle.std.specs.List.{All}
use Rattle.wasm_codec.specs.formats.Combinators.{◌⊗◌, u32, items, Format}
use Rattle.wasm_codec.specs.formats.Grammar.{TakesBytes}
use Rattle.wasm_codec.specs.Places.{Place, Reader, u32_at}
use Rattle.wasm_codec.specs.Lawful.{IsLawful}
use Rattle.wasm_codec.specs.Reading.{◌>>=◌}
use Rattle.wasm_codec.specs.Leb128.{unsigned_leb128, digits_of, complemented}
use Rattle.wasm_codec.specs.Rewriter.{Rewriting, rewritten_at, rewriting_after, without, with_byte}
use Rattle.wasm_codec.specs.formats.Numbers.{EncodesU32}
use Rattle.wasm_codec.specs.Encoding.{IsCount, IsMinimal}
use Rattle.wasm_codec.proofs.FormatLaws.{takes_bytes, Lawful-never, Lawful-after, Lawful-made, Lawful-both, Lawful-u32, Lawful-items}
use Rattle.wasm_codec.proofs.RewriterLaws.{is_given, is_after}
use Rattle.wasm_codec.proofs.NumberLaws.{written}
use Rattle.wasm_types.specs.declared.types.heap.AbstractHeapType.{AbstractHeapType}
use Rattle.wasm_types.specs.declared.types.heap.HeapType.{HeapType}
use Rattle.wasm_types.specs.declared.types.heap.HeapType.TheVariants.{Abstract, Concrete, Exact}
use Rattle.wasm_types.specs.declared.types.heap.RefType.{RefType}
use Rattle.wasm_types.specs.formats.Types.{ref_type, abstract_type}
use Rattle.wasm_types.specs.TypeRanges.{HeapTypeFits}
use Rattle.wasm_types.specs.declared.types.heap.AbstractHeapType.TheVariants as abstracts
use Rattle.wasm_types.proofs.TypeFormatLaws.{Lawful-ref-type}
use Rattle.wasm_lists.proofs.WrittenLists.{in_range_of}
use Rattle.wasm_types.proofs.WrittenTypes.{all_in_range, ref_written}
use Rattle.wasm_instructions.specs.formats.Instructions.{Instruction}
use Rattle.wasm_sections.specs.declared.elements.ElementMode.{ElementMode}
use Rattle.wasm_sections.specs.declared.elements.Elements.{Elements}
use Rattle.wasm_sections.specs.declared.elements.Element.{Element}
use Rattle.wasm_externals.specs.formats.Expressions.{expr}
use Rattle.wasm_sections.specs.formats.Elements.{funcref, is_func, is_funcref, element, Exprs, part_0, functions_part, part_2, part_4, expressions_part, part_6, functions_number, expressions_number, element_number, kind_and_functions, element_form, element_segment, typed_of}
use Rattle.wasm_sections.specs.ElementForms.{place_at, mode_at, elements_at}
use Rattle.wasm_externals.specs.ClosedExpressions.{IsClosed, IsWrittenExpr}
use Rattle.wasm_sections.specs.ClosedEntries.{IsClosedMode, IsClosedElement, AreClosed}
use Rattle.wasm_sections.specs.SegmentBytes.{table_and_offset_bytes, is_short, element_mode_bytes, ElementModeFits, elements_bytes, ElementsFit}
use Rattle.wasm_externals.specs.formats.PartCombinators.{part_if}
use Rattle.wasm_sections.specs.declared.elements.ElementMode.TheVariants as modes
use Rattle.wasm_sections.specs.declared.elements.Elements.TheVariants as held
use Rattle.wasm_sections.proofs.SegmentLaws.{left_out, by_its_number, by_another_number}
use Rattle.wasm_externals.proofs.PartCombinatorLaws.{Lawful-numbered}
use Rattle.wasm_externals.proofs.ExpressionLaws.{expr_is_lawful, in_expr}

Lawful-kind-and-functions : IsLawful kind_and_functions
Lawful-kind-and-functions = Lawful-after 0x00 (lit≤ tt) (Lawful-items Lawful-u32)

Lawful-element-form : (n : ℕ) → IsLawful (element_form n)
Lawful-element-form zero = Lawful-made (λ p. element (modes.Active 0 p.0) (held.Functions p.1)) part_0 (λ p. refl) (Lawful-both expr_is_lawful (Lawful-items Lawful-u32))
Lawful-element-form (suc zero) = Lawful-made (λ fs. element modes.Passive (held.Functions fs)) functions_part (λ fs. refl) Lawful-kind-and-functions
Lawful-element-form (suc (suc zero)) = Lawful-made (λ p. element (modes.Active p.0 p.1.0) (held.Functions p.1.1)) part_2 (λ p. refl) (Lawful-both Lawful-u32 (Lawful-both expr_is_lawful Lawful-kind-and-functions))
Lawful-element-form (suc (suc (suc zero))) = Lawful-made (λ fs. element modes.Declared (held.Functions fs)) functions_part (λ fs. refl) Lawful-kind-and-functions
Lawful-element-form (suc (suc (suc (suc zero)))) = Lawful-made (λ p. element (modes.Active 0 p.0) (held.Expressions funcref p.1)) part_4 (λ p. refl) (Lawful-both expr_is_lawful (Lawful-items expr_is_lawful))
Lawful-element-form (suc (suc (suc (suc (suc zero))))) = Lawful-made (λ p. element modes.Passive (held.Expressions p.0 p.1)) expressions_part (λ p. refl) (Lawful-both Lawful-ref-type (Lawful-items expr_is_lawful))
Lawful-element-form (suc (suc (suc (suc (suc (suc zero)))))) = Lawful-made (λ p. element (modes.Active p.0 p.1.0) (held.Expressions p.1.1.0 p.1.1.1)) part_6 (λ p. refl) (Lawful-both Lawful-u32 (Lawful-both expr_is_lawful (Lawful-both Lawful-ref-type (Lawful-items expr_is_lawful))))
Lawful-element-form (suc (suc (suc (suc (suc (suc (suc zero))))))) = Lawful-made (λ p. element modes.Declared (held.Expressions p.0 p.1)) expressions_part (λ p. refl) (Lawful-both Lawful-ref-type (Lawful-items expr_is_lawful))
Lawful-element-form n = Lawful-never

functions_low : (mode : ElementMode) → functions_number mode < 128
functions_low modes.Passive = lit≤ tt
functions_low modes.Declared = lit≤ tt
functions_low (modes.Active table offset) = by (eqb table 0) where
  by : (t : Bool) → cond t 0 2 < 128
  by true = lit≤ tt
  by false = lit≤ tt

expressions_low : (ty : RefType) (mode : ElementMode) → expressions_number ty mode < 128
expressions_low ty modes.Passive = lit≤ tt
expressions_low ty modes.Declared = lit≤ tt
expressions_low ty (modes.Active table offset) = by (eqb table 0 && is_funcref ty) where
  by : (t : Bool) → cond t 4 6 < 128
  by true = lit≤ tt
  by false = lit≤ tt

element_low : (e : Element) → element_number e < 128
element_low e = by e.elements where
  by : (elements : Elements) → element_number (element e.mode elements) < 128
  by (held.Functions fs) = functions_low e.mode
  by (held.Expressions ty es) = expressions_low ty e.mode

func_is : (ty : AbstractHeapType) → is_func ty ≡ true → ty ≡ abstracts.Func
func_is abstracts.Func e = refl
func_is ty e = absurd cc

pub funcref_of : (nullable : Bool) (heap : HeapType) → is_funcref (record { nullable = nullable; heap_type = heap }) ≡ true → record { nullable = nullable; heap_type = heap } ≡ funcref
funcref_of true (Abstract false ty) e = ap (λ (a : AbstractHeapType). record { nullable = true; heap_type = Abstract false a }) (func_is ty e)
funcref_of false (Abstract false ty) e = absurd cc
funcref_of nullable (Abstract true ty) e = absurd cc
funcref_of nullable (Concrete n) e = absurd cc
funcref_of nullable (Exact n) e = absurd cc

pub both_true : (a b : Bool) → a && b ≡ true → (a ≡ true) × (b ≡ true)
both_true true b e = (refl, e)
both_true false b e = absurd cc

-- its own number is written with fewer bytes
abbrev Fewer : List ℕ → Element → Type 0
Fewer bytes e = (element_form (element_number e)).InRange e × (length ((element_form (element_number e)).bytes e) < length bytes)

-- without the byte of the kind
unkind : (bytes : List ℕ) (p : List Instruction × List ℕ) → (expr ⊗ kind_and_functions).InRange p → length ((expr ⊗ items u32).bytes p) < length ((expr ⊗ kind_and_functions).bytes p)
unkind bytes p fits = omega (arith, length-append (expr.bytes p.0) ((items u32).bytes p.1), length-append (expr.bytes p.0) (kind_and_functions.bytes p.1))

untyped : (offset : List Instruction) (es : Exprs) (ty : RefType) → length ((expr ⊗ items expr).bytes (offset, es)) ≤ length ((expr ⊗ (ref_type ⊗ items expr)).bytes (offset, (ty, es)))
untyped offset es ty =
    omega (arith, length-append (expr.bytes offset) ((items expr).bytes es), length-append (expr.bytes offset) (ref_type.bytes ty ++ (items expr).bytes es), length-append (ref_type.bytes ty) ((items expr).bytes es))

element_other : (n : ℕ) (bytes : List ℕ) (e : Element) → (element_form n).Encodes bytes e → (n ≡ element_number e → ⊥) → Fewer bytes e
element_other zero bytes e g differs = absurd (differs (ap element_number g.2))
element_other (suc zero) bytes e g differs = absurd (differs (ap element_number g.2))
element_other (suc (suc zero)) bytes e g differs = subst (Fewer bytes) g.2 (by (eqb g.0.0 0) refl) where
  by : (t : Bool) → eqb g.0.0 0 ≡ t → Fewer bytes (element (modes.Active g.0.0 g.0.1.0) (held.Functions g.0.1.1))
  by true is =
      let p = left_out (Lawful-both expr_is_lawful Lawful-kind-and-functions) bytes g.0.0 g.0.1 g.1 in
      let shorter = unkind bytes g.0.1 p.0 in
      rw is ((p.0, ap (λ (m : ℕ). element (modes.Active m g.0.1.0) (held.Functions g.0.1.1)) (sym (eqb-true g.0.0 0 is))), omega (arith, p.1, shorter))
  by false is = absurd (differs (rw is refl ∙ ap element_number g.2))
element_other (suc (suc (suc zero))) bytes e g differs = absurd (differs (ap element_number g.2))
element_other (suc (suc (suc (suc zero)))) bytes e g differs = absurd (differs (ap element_number g.2))
element_other (suc (suc (suc (suc (suc zero))))) bytes e g differs = absurd (differs (ap element_number g.2))
element_other (suc (suc (suc (suc (suc (suc zero)))))) bytes e g differs = subst (Fewer bytes) g.2 (by (eqb g.0.0 0 && is_funcref g.0.1.1.0) refl) where
  by : (t : Bool) → eqb g.0.0 0 && is_funcref g.0.1.1.0 ≡ t → Fewer bytes (element (modes.Active g.0.0 g.0.1.0) (held.Expressions g.0.1.1.0 g.0.1.1.1))
  by true is =
      let both = both_true (eqb g.0.0 0) (is_funcref g.0.1.1.0) is in
      let p = left_out (Lawful-both expr_is_lawful (Lawful-both Lawful-ref-type (Lawful-items expr_is_lawful))) bytes g.0.0 g.0.1 g.1 in
      let shorter = untyped g.0.1.0 g.0.1.1.1 g.0.1.1.0 in
      let same = ap (λ (m : ℕ). element (modes.Active m g.0.1.0) (held.Expressions funcref g.0.1.1.1)) (sym (eqb-true g.0.0 0 both.0)) ∙ ap (λ (ty : RefType). element (modes.Active g.0.0 g.0.1.0) (held.Expressions ty g.0.1.1.1)) (sym (funcref_of g.0.1.1.0.nullable g.0.1.1.0.heap_type both.1)) in
      rw is (((p.0.0, p.0.1.1), same), omega (arith, p.1, shorter))
  by false is = absurd (differs (rw is refl ∙ ap element_number g.2))
element_other (suc (suc (suc (suc (suc (suc (suc zero))))))) bytes e g differs = absurd (differs (ap element_number g.2))
element_other n bytes e g differs = absurd g

pub element_is_lawful : IsLawful element_segment
unfolding element_segment
element_is_lawful = Lawful-numbered element_number element_form (record { lawful = Lawful-element-form; low = element_low; other = element_other })

pub element_takes : TakesBytes element_segment.Encodes
unfolding element_segment
element_takes = takes_bytes element_is_lawful refl

-- no other number is that of a form
pub no_element_form : (n : ℕ) (p : Place) → (n ≡ 0 → ⊥) → (n ≡ 1 → ⊥) → (n ≡ 2 → ⊥) → (n ≡ 3 → ⊥) → (n ≡ 4 → ⊥) → (n ≡ 5 → ⊥) → (n ≡ 6 → ⊥) → (n ≡ 7 → ⊥) → (element_form n).at p ≡ None
no_element_form zero p a b c d e f g h = absurd (a refl)
no_element_form (suc zero) p a b c d e f g h = absurd (b refl)
no_element_form (suc (suc zero)) p a b c d e f g h = absurd (c refl)
no_element_form (suc (suc (suc zero))) p a b c d e f g h = absurd (d refl)
no_element_form (suc (suc (suc (suc zero)))) p a b c d e f g h = absurd (e refl)
no_element_form (suc (suc (suc (suc (suc zero))))) p a b c d e f g h = absurd (f refl)
no_element_form (suc (suc (suc (suc (suc (suc zero)))))) p a b c d e f g h = absurd (g refl)
no_element_form (suc (suc (suc (suc (suc (suc (suc zero))))))) p a b c d e f g h = absurd (h refl)
no_element_form (suc (suc (suc (suc (suc (suc (suc (suc n)))))))) p a b c d e f g h = refl

-- ---- reading

abbrev Read : Type 0 → Type 0
Read A = Option (A × Place)

abbrev mapped : {A B : Type 0} → (A → B) → Read A → Read B
mapped make r = r >>= λ x. Some (make x.0, x.1)

abbrev both : {A B : Type 0} → Read A → Reader B → Read (A × B)
both r second = r >>= λ a. second a.1 >>= λ b. Some ((a.0, b.0), b.1)

abbrev in_parts : Read ElementMode → Reader Elements → Read Element
in_parts mode elements = mode >>= λ m. elements m.1 >>= λ e. Some (element m.0 e.0, e.1)

-- a mode without a place
plain : {B : Type 0} (mode : ElementMode) (held_of : B → Elements) (r : Read B) → mapped (element mode) (mapped held_of r) ≡ mapped (λ b. element mode (held_of b)) r
plain mode held_of None = refl
plain mode held_of (Some x) = refl

-- and one with a place
placed : {B : Type 0} (table : ℕ) (held_of : B → Elements) (second : Reader B) (r : Read (List Instruction)) → in_parts (mapped (modes.Active table) r) (λ p. mapped held_of (second p)) ≡ mapped (λ (p : List Instruction × B). element (modes.Active table p.0) (held_of p.1)) (both r second)
placed table held_of second None = refl
placed {B} table held_of second (Some x) = by (second x.1) where
  by : (o : Read B) → mapped (element (modes.Active table x.0)) (mapped held_of o) ≡ mapped (λ (p : List Instruction × B). element (modes.Active table p.0) (held_of p.1)) (o >>= λ b. Some ((x.0, b.0), b.1))
  by None = refl
  by (Some y) = refl

-- a segment that names its table
named : {B : Type 0} (held_of : B → Elements) (second : Reader B) (r : Read ℕ) → in_parts (r >>= λ x. place_at x.0 x.1) (λ p. mapped held_of (second p)) ≡ mapped (λ (p : ℕ × (List Instruction × B)). element (modes.Active p.0 p.1.0) (held_of p.1.1)) (both r (λ p. both (expr.at p) second))
named held_of second None = refl
named {B} held_of second (Some x) = placed x.0 held_of second (expr.at x.1) ∙ by (both (expr.at x.1) second) where
  by : (o : Read (List Instruction × B)) → mapped (λ (p : List Instruction × B). element (modes.Active x.0 p.0) (held_of p.1)) o ≡ mapped (λ (p : ℕ × (List Instruction × B)). element (modes.Active p.0 p.1.0) (held_of p.1.1)) (o >>= λ b. Some ((x.0, b.0), b.1))
  by None = refl
  by (Some y) = refl

by_parts : (n : ℕ) (p : Place) → in_parts (mode_at n p) (elements_at n) ≡ (element_form n).at p
by_parts zero p = placed 0 held.Functions (items u32).at (expr.at p)
by_parts (suc zero) p = plain modes.Passive held.Functions (kind_and_functions.at p)
by_parts (suc (suc zero)) p = named held.Functions kind_and_functions.at (u32_at p)
by_parts (suc (suc (suc zero))) p = plain modes.Declared held.Functions (kind_and_functions.at p)
by_parts (suc (suc (suc (suc zero)))) p = placed 0 (held.Expressions funcref) (items expr).at (expr.at p)
by_parts (suc (suc (suc (suc (suc zero))))) p = plain modes.Passive typed_of ((ref_type ⊗ items expr).at p)
by_parts (suc (suc (suc (suc (suc (suc zero)))))) p = named typed_of (ref_type ⊗ items expr).at (u32_at p)
by_parts (suc (suc (suc (suc (suc (suc (suc zero))))))) p = plain modes.Declared typed_of ((ref_type ⊗ items expr).at p)
by_parts (suc (suc (suc (suc (suc (suc (suc (suc n)))))))) p = refl

pub form_read : (n : ℕ) (p q r : Place) (mode : ElementMode) (elements : Elements) → mode_at n p ≡ Some (mode, q) → elements_at n q ≡ Some (elements, r) → (element_form n).at p ≡ Some (element mode elements, r)
form_read n p q r mode elements first second = sym (by_parts n p) ∙ rw (first, second) refl

pub no_mode : (n : ℕ) (p : Place) → mode_at n p ≡ None → (element_form n).at p ≡ None
no_mode n p none = sym (by_parts n p) ∙ rw none refl

pub no_elements : (n : ℕ) (p q : Place) (mode : ElementMode) → mode_at n p ≡ Some (mode, q) → elements_at n q ≡ None → (element_form n).at p ≡ None
no_elements n p q mode first none = sym (by_parts n p) ∙ rw (first, none) refl

-- ---- rewriting

pub expr_takes : TakesBytes expr.Encodes
unfolding expr
expr_takes = takes_bytes expr_is_lawful refl

-- ---- forms that name table 0, and are written without what they needn't tell

-- a byte that was written is taken out
without_is : (r : Rewriting) (front back : List ℕ) (b mark : ℕ) → r.done ≡ front ++ b ∷ back → mark ≡ length front → (without mark 1 r).done ≡ front ++ back
without_is r front back b mark written at =
    let first : take mark (front ++ b ∷ back) ≡ front = take_at front (b ∷ back) mark (sym at) in
    let rest : drop (mark + 1) (front ++ b ∷ back) ≡ back = ap (drop (mark + 1)) (sym (append_assoc front (b ∷ []) back)) ∙ drop_at (front ++ b ∷ []) back (mark + 1) (omega (arith, at, length-append front (b ∷ []))) in
    rw (written, first, rest) refl

is_there : (r : Rewriting) (front back : List ℕ) (b mark : ℕ) → r.done ≡ front ++ b ∷ back → mark ≡ length front → mark + 1 ≤ length r.done
is_there r front back b mark written at = omega (arith, at, ap (length {A = ℕ}) written, length-append front (b ∷ back))

zero_digit : unsigned_leb128 0 ≡ 0 ∷ []
unfolding unsigned_leb128 digits_of
zero_digit = refl

two_digit : unsigned_leb128 2 ≡ 2 ∷ []
unfolding unsigned_leb128 digits_of
two_digit = refl

four_digit : unsigned_leb128 4 ≡ 4 ∷ []
unfolding unsigned_leb128 digits_of
four_digit = refl

six_digit : unsigned_leb128 6 ≡ 6 ∷ []
unfolding unsigned_leb128 digits_of
six_digit = refl

either_some : (t : Bool) (a b : ℕ) (bytes : List ℕ) → 0 < length (if t then a ∷ [] else b ∷ bytes)
either_some true a b bytes = omega arith
either_some false a b bytes = omega arith

digit_there : (n : ℕ) → 0 < length (unsigned_leb128 n)
unfolding unsigned_leb128 digits_of
digit_there n = either_some (nat_lt n 128) (complemented false n) (128 + complemented false (n % 128)) (digits_of false 128 8 (n / 128))

-- what was written is as long as before, and longer
longer_by_index : (p q : Rewriting) (table : ℕ) → rewritten_at u32 p ≡ Some (table, q) → length p.done + 1 ≤ length q.done
longer_by_index p q table e =
    let g = is_given u32 p table q e in
    omega (arith, ap (length {A = ℕ}) g.written, length-append p.done (unsigned_leb128 table), digit_there table)

longer_by : {V : Type 0} (F : Format V) (p q : Rewriting) → rewriting_after F p ≡ Some q → length p.done ≤ length q.done
longer_by F p q e =
    let one = is_after F p q e in
    omega (arith, ap (length {A = ℕ}) one.given.written, length-append p.done (F.bytes one.value))

-- the number of the form was written
pub number_written : (old start : Rewriting) (number mark : ℕ) → rewritten_at u32 old ≡ Some (number, start) → mark ≡ length old.done → mark < length start.done
number_written old start number mark e is = let more = longer_by_index old start number e in omega (arith, more, is)

-- After it are the index of a table, an expression, and at a mark the byte of a kind or type. The rewriter takes out
-- that byte, and then the number.
module _ (start mid at end : Rewriting) (table mark kind : ℕ) (there : mark < length start.done) (named : rewritten_at u32 start ≡ Some (table, mid)) (placed : rewriting_after expr mid ≡ Some at) (kind_is : kind ≡ length at.done) where
  beyond : mark + 2 ≤ length at.done
  beyond =
      let one = longer_by_index start mid table named in
      let two = longer_by expr mid at placed in
      omega (arith, one, two, there)

  module _ (b : ℕ) (back : List ℕ) (written : end.done ≡ at.done ++ b ∷ back) where
    shorter : length (without kind 1 end).done ≡ length at.done + length back
    shorter = ap (length {A = ℕ}) (without_is end at.done back b kind written kind_is) ∙ length-append at.done back

    number_there : mark + 1 ≤ length (without kind 1 end).done
    number_there = omega (arith, beyond, shorter)

    index_there : mark < length (without mark 1 (without kind 1 end)).done
    index_there =
        let cut = (without kind 1 end).done in
        omega (arith, beyond, shorter, length-append (take mark cut) (drop (mark + 1) cut), length-take-le mark cut (omega (arith, number_there)), length-drop (mark + 1) cut)

  -- the byte of a kind
  module _ (functions : rewriting_after kind_and_functions at ≡ Some end) where
    pub kind_there : kind + 1 ≤ length end.done
    kind_there = let two = is_after kind_and_functions at end functions in is_there end at.done ((items u32).bytes two.value) 0 kind two.given.written kind_is

    pub number_of_functions_there : mark + 1 ≤ length (without kind 1 end).done
    number_of_functions_there = let two = is_after kind_and_functions at end functions in number_there 0 ((items u32).bytes two.value) two.given.written

-- the byte of its kind or type was written at a mark, after the number of its form, the index and the expression
module _ (n : ℕ) (old start mid at end : Rewriting) (mark kind b : ℕ) (back : List ℕ) (digit : unsigned_leb128 n ≡ n ∷ []) (begun : rewritten_at u32 old ≡ Some (n, start)) (named : rewritten_at u32 start ≡ Some (0, mid)) (placed : rewriting_after expr mid ≡ Some at) (mark_is : mark ≡ length old.done) (kind_is : kind ≡ length at.done) (written : end.done ≡ at.done ++ b ∷ back) where
  abbrev offset_bytes : List ℕ
  offset_bytes = expr.bytes (is_after expr mid at placed).value

  regroup : (d e : List ℕ) → ((d ++ n ∷ []) ++ 0 ∷ []) ++ e ≡ d ++ n ∷ (0 ∷ e)
  regroup d e = simp append_assoc

  placed_is : at.done ≡ old.done ++ n ∷ (0 ∷ offset_bytes)
  placed_is =
      let g = is_given u32 old n start begun in
      let z = is_given u32 start 0 mid named in
      let one = is_after expr mid at placed in
      let table : mid.done ≡ (old.done ++ n ∷ []) ++ 0 ∷ [] = z.written ∙ ap (λ (d : List ℕ). start.done ++ d) zero_digit ∙ ap (λ (d : List ℕ). d ++ 0 ∷ []) (g.written ∙ ap (λ (d : List ℕ). old.done ++ d) digit) in
      one.given.written ∙ ap (λ (d : List ℕ). d ++ offset_bytes) table ∙ regroup old.done offset_bytes

  kind_cut : (without kind 1 end).done ≡ old.done ++ n ∷ (0 ∷ (offset_bytes ++ back))
  kind_cut = without_is end at.done back b kind written kind_is ∙ ap (λ (d : List ℕ). d ++ back) placed_is ∙ append_assoc old.done (n ∷ (0 ∷ offset_bytes)) back

  number_cut : (without mark 1 (without kind 1 end)).done ≡ old.done ++ 0 ∷ (offset_bytes ++ back)
  number_cut = without_is (without kind 1 end) old.done (0 ∷ (offset_bytes ++ back)) n mark kind_cut mark_is

  index_set : (with_byte mark 4 (without mark 1 (without kind 1 end))).done ≡ old.done ++ 4 ∷ (offset_bytes ++ back)
  index_set = rw number_cut (set_at old.done 0 (offset_bytes ++ back) 4 mark (sym mark_is))

-- what was its index is the number of the form
module _ (old start mid at end : Rewriting) (mark kind : ℕ) (begun : rewritten_at u32 old ≡ Some (2, start)) (named : rewritten_at u32 start ≡ Some (0, mid)) (placed : rewriting_after expr mid ≡ Some at) (functions : rewriting_after kind_and_functions at ≡ Some end) (mark_is : mark ≡ length old.done) (kind_is : kind ≡ length at.done) where
  abbrev indexes : List ℕ
  indexes = (items u32).bytes (is_after kind_and_functions at end functions).value

  pub functions_of_table_0 : rewriting_after element_segment old ≡ Some (without mark 1 (without kind 1 end))
  unfolding element_segment
  functions_of_table_0 =
      let g = is_given u32 old 2 start begun in
      let z = is_given u32 start 0 mid named in
      let one = is_after expr mid at placed in
      let two = is_after kind_and_functions at end functions in
      let written = number_cut 2 old start mid at end mark kind 0 indexes two_digit begun named placed mark_is kind_is two.given.written in
      by_another_number element_number element_form old start 2 begun end.place (without mark 1 (without kind 1 end)) (element (modes.Active 0 one.value) (held.Functions two.value)) (rw (z.is_read, one.given.is_read, two.given.is_read) refl) refl refl (written ∙ ap (λ (d : List ℕ). old.done ++ (d ++ (expr.bytes one.value ++ indexes))) (sym zero_digit)) (two.given.rest ∙ one.given.rest ∙ z.rest ∙ g.rest)

-- and 4 replaces the number if the type is `funcref`
module _ (start mid at typed end : Rewriting) (mark kind : ℕ) (ty : RefType) (named : rewritten_at u32 start ≡ Some (0, mid)) (placed : rewriting_after expr mid ≡ Some at) (told : rewritten_at ref_type at ≡ Some (ty, typed)) (func : true ≡ is_funcref ty) (expressions : rewriting_after (items expr) typed ≡ Some end) (kind_is : kind ≡ length at.done) where
  type_byte : ref_type.bytes funcref ≡ 0x70 ∷ []
  unfolding ref_type abstract_type
  type_byte = refl

  abbrev initials : List ℕ
  initials = (items expr).bytes (is_after (items expr) typed end expressions).value

  type_is : ty ≡ funcref
  type_is = funcref_of ty.nullable ty.heap_type (sym func)

  typed_is : end.done ≡ at.done ++ 0x70 ∷ initials
  typed_is =
      let t = is_given ref_type at ty typed told in
      let bytes : ref_type.bytes ty ≡ 0x70 ∷ [] = ap ref_type.bytes type_is ∙ type_byte in
      (is_after (items expr) typed end expressions).given.written ∙ ap (λ (d : List ℕ). d ++ initials) (t.written ∙ ap (λ (d : List ℕ). at.done ++ d) bytes) ∙ append_assoc at.done (0x70 ∷ []) initials

  pub type_there : kind + 1 ≤ length end.done
  type_there = is_there end at.done initials 0x70 kind typed_is kind_is

  pub number_of_expressions_there : mark < length start.done → mark + 1 ≤ length (without kind 1 end).done
  number_of_expressions_there there = number_there start mid at end 0 mark kind there named placed kind_is 0x70 initials typed_is

  pub index_of_expressions_there : mark < length start.done → mark < length (without mark 1 (without kind 1 end)).done
  index_of_expressions_there there = index_there start mid at end 0 mark kind there named placed kind_is 0x70 initials typed_is

  module _ (old : Rewriting) (begun : rewritten_at u32 old ≡ Some (6, start)) (mark_is : mark ≡ length old.done) where
    pub expressions_of_table_0 : rewriting_after element_segment old ≡ Some (with_byte mark 4 (without mark 1 (without kind 1 end)))
    unfolding element_segment
    expressions_of_table_0 =
        let g = is_given u32 old 6 start begun in
        let z = is_given u32 start 0 mid named in
        let one = is_after expr mid at placed in
        let t = is_given ref_type at ty typed told in
        let two = is_after (items expr) typed end expressions in
        let written = index_set 6 old start mid at end mark kind 0x70 initials six_digit begun named placed mark_is kind_is typed_is in
        let value = λ (r : RefType). element (modes.Active 0 one.value) (held.Expressions r two.value) in
        let read : (element_form 6).at start.place ≡ Some (value funcref, end.place) = rw (z.is_read, one.given.is_read, t.is_read, two.given.is_read) (ap (λ (r : RefType). Some (value r, end.place)) type_is) in
        by_another_number element_number element_form old start 6 begun end.place (with_byte mark 4 (without mark 1 (without kind 1 end))) (value funcref) read refl refl (written ∙ ap (λ (d : List ℕ). old.done ++ (d ++ (expr.bytes one.value ++ initials))) (sym four_digit)) (two.given.rest ∙ t.rest ∙ one.given.rest ∙ z.rest ∙ g.rest)

-- a segment of another table or type keeps all of its parts
pub expressions_kept : (begun start mid at typed end : Rewriting) (table : ℕ) (ty : RefType) → rewritten_at u32 begun ≡ Some (6, start) → rewritten_at u32 start ≡ Some (table, mid) → rewriting_after expr mid ≡ Some at → rewritten_at ref_type at ≡ Some (ty, typed) → rewriting_after (items expr) typed ≡ Some end → eqb table 0 && is_funcref ty ≡ false
    → rewriting_after element_segment begun ≡ Some end
unfolding element_segment
expressions_kept begun start mid at typed end table ty number named placed told expressions other =
    let g = is_given u32 start table mid named in
    let one = is_after expr mid at placed in
    let t = is_given ref_type at ty typed told in
    let two = is_after (items expr) typed end expressions in
    let written : end.done ≡ start.done ++ (unsigned_leb128 table ++ (expr.bytes one.value ++ (ref_type.bytes ty ++ (items expr).bytes two.value))) =
    two.given.written ∙ ap (λ (d : List ℕ). d ++ (items expr).bytes two.value) (t.written ∙ ap (λ (d : List ℕ). d ++ ref_type.bytes ty) (one.given.written ∙ ap (λ (d : List ℕ). d ++ expr.bytes one.value) g.written))
    ∙ regroup start.done (unsigned_leb128 table) (expr.bytes one.value) (ref_type.bytes ty) ((items expr).bytes two.value) in
    by_its_number element_number element_form begun start 6 number end (element (modes.Active table one.value) (held.Expressions ty two.value)) (rw (g.is_read, one.given.is_read, t.is_read, two.given.is_read) refl) written (two.given.rest ∙ t.rest ∙ one.given.rest ∙ g.rest) (rw other refl) (rw other refl)
  where
    regroup : (d t l r c : List ℕ) → (((d ++ t) ++ l) ++ r) ++ c ≡ d ++ (t ++ (l ++ (r ++ c)))
    regroup d t l r c = simp append_assoc

-- ---- writing

place_then : (form : ℕ) (index : Option ℕ) (offset : List Instruction) (rest : List ℕ) → table_and_offset_bytes form index offset ++ rest ≡ unsigned_leb128 form ++ ((part_if (is_some index) u32).bytes index ++ (expr.bytes offset ++ rest))
place_then form index offset rest =
    append_assoc (unsigned_leb128 form) ((part_if (is_some index) u32).bytes index ++ expr.bytes offset) rest ∙ ap (λ (l : List ℕ). unsigned_leb128 form ++ l) (append_assoc ((part_if (is_some index) u32).bytes index) (expr.bytes offset) rest)

abbrev AreBytes : ElementMode → Elements → Type 0
AreBytes mode elements = element_mode_bytes (element_number (element mode elements)) mode ++ elements_bytes (is_short (element_number (element mode elements))) elements ≡ element_segment.bytes (element mode elements)

element_bytes_are : (mode : ElementMode) (elements : Elements) → AreBytes mode elements
unfolding element_segment part_if
element_bytes_are modes.Passive (held.Functions fs) = refl
element_bytes_are modes.Passive (held.Expressions ty es) = refl
element_bytes_are modes.Declared (held.Functions fs) = refl
element_bytes_are modes.Declared (held.Expressions ty es) = refl
element_bytes_are (modes.Active table offset) (held.Functions fs) = by (eqb table 0) refl where
  by : (t : Bool) → eqb table 0 ≡ t → AreBytes (modes.Active table offset) (held.Functions fs)
  by true is = rw is (place_then 0 None offset ((items u32).bytes fs))
  by false is = rw is (place_then 2 (Some table) offset (kind_and_functions.bytes fs))
element_bytes_are (modes.Active table offset) (held.Expressions ty es) = by (eqb table 0 && is_funcref ty) refl where
  by : (t : Bool) → eqb table 0 && is_funcref ty ≡ t → AreBytes (modes.Active table offset) (held.Expressions ty es)
  by true is = rw is (place_then 4 None offset ((items expr).bytes es))
  by false is = rw is (place_then 6 (Some table) offset (ref_type.bytes ty ++ (items expr).bytes es))

pub element_parts : (e : Element) (form : ℕ) (short : Bool) → form ≡ element_number e → short ≡ is_short form → element_mode_bytes form e.mode ++ elements_bytes short e.elements ≡ element_segment.bytes e
element_parts e form short is shortly = rw (shortly, is) (element_bytes_are e.mode e.elements)

element_there : (mode : ElementMode) (elements : Elements) → ElementModeFits (element_number (element mode elements)) mode → ElementsFit (is_short (element_number (element mode elements))) elements → element_segment.InRange (element mode elements)
unfolding element_segment
element_there modes.Passive (held.Functions fs) fits hold = (hold, refl)
element_there modes.Passive (held.Expressions ty es) fits hold = ((hold.0 refl, hold.1), refl)
element_there modes.Declared (held.Functions fs) fits hold = (hold, refl)
element_there modes.Declared (held.Expressions ty es) fits hold = ((hold.0 refl, hold.1), refl)
element_there (modes.Active table offset) (held.Functions fs) fits hold = by (eqb table 0) refl where
  by : (t : Bool) → eqb table 0 ≡ t → element_segment.InRange (element (modes.Active table offset) (held.Functions fs))
  by true is = rw is ((fits.1, hold), ap (λ (m : ℕ). element (modes.Active m offset) (held.Functions fs)) (sym (eqb-true table 0 is)))
  by false is =
      let small : table < 2 ^ 32 = fits.0 (rw is refl) in
      rw is ((small, (fits.1, hold)), refl)
element_there (modes.Active table offset) (held.Expressions ty es) fits hold = by (eqb table 0 && is_funcref ty) refl where
  by : (t : Bool) → eqb table 0 && is_funcref ty ≡ t → element_segment.InRange (element (modes.Active table offset) (held.Expressions ty es))
  by true is =
      let both = both_true (eqb table 0) (is_funcref ty) is in
      let same = ap (λ (m : ℕ). element (modes.Active m offset) (held.Expressions funcref es)) (sym (eqb-true table 0 both.0)) ∙ ap (λ (r : RefType). element (modes.Active table offset) (held.Expressions r es)) (sym (funcref_of ty.nullable ty.heap_type both.1)) in
      rw is ((fits.1, hold.1), same)
  by false is =
      let typed : ref_type.InRange ty = hold.0 (rw is refl) in
      let small : table < 2 ^ 32 = fits.0 (rw is refl) in
      rw is ((small, (fits.1, (typed, hold.1))), refl)

pub element_written : (e : Element) (form : ℕ) (short : Bool) → form ≡ element_number e → short ≡ is_short form → (IsClosedMode e.mode → ElementModeFits form e.mode) → (AreClosed e.elements → ElementsFit short e.elements) → IsClosedElement e → IsMinimal element_segment.Encodes element_segment.bytes e
element_written e form short is shortly fits hold closed =
    let own : ElementsFit (is_short (element_number e)) e.elements = subst (λ (n : ℕ). ElementsFit (is_short n) e.elements) is (subst (λ (s : Bool). ElementsFit s e.elements) shortly (hold closed.1)) in
    written element_is_lawful.minimal e (element_there e.mode e.elements (subst (λ (n : ℕ). ElementModeFits n e.mode) is (fits closed.0)) own)

pub element_mode_fits : (form table : ℕ) (offset : List Instruction) → (is_short form ≡ false → table < 2 ^ 32) → (IsClosed offset → IsMinimal expr.Encodes expr.bytes offset) → IsClosed offset → ElementModeFits form (modes.Active table offset)
element_mode_fits form table offset small made closed = (small, in_expr offset (made closed))

pub unnamed_bytes : (form table : ℕ) (offset : List Instruction) → is_short form ≡ true → table_and_offset_bytes form None offset ≡ element_mode_bytes form (modes.Active table offset)
unnamed_bytes form table offset short = rw short refl

pub named_bytes : (form table : ℕ) (offset : List Instruction) → is_short form ≡ false → table_and_offset_bytes form (Some table) offset ≡ element_mode_bytes form (modes.Active table offset)
named_bytes form table offset long = rw long refl

pub functions_fit : (short : Bool) (elements : Elements) (fs given : List ℕ) → elements ≡ held.Functions fs → given ≡ fs → IsCount (length given) → All (IsMinimal EncodesU32 unsigned_leb128) given → AreClosed elements → ElementsFit short elements
functions_fit short elements fs given is these few made closed =
    subst (ElementsFit short) (sym is) (subst (λ (l : List ℕ). (items u32).InRange l) these (few, all_in_range u32 Lawful-u32 given made))

pub expressions_fit : (short : Bool) (elements : Elements) (ty : RefType) (es given : List (List Instruction)) → elements ≡ held.Expressions ty es → given ≡ es → (short ≡ false → ref_type.InRange ty) → IsCount (length given) → All IsWrittenExpr given → AreClosed elements → ElementsFit short elements
expressions_fit short elements ty es given is these typed few made closed =
    let ends : All IsClosed given = subst (λ (l : List (List Instruction)). All IsClosed l) (sym these) (subst AreClosed is closed) in
    subst (ElementsFit short) (sym is) (typed, subst (λ (l : List (List Instruction)). (items expr).InRange l) these (few, all_in_range expr expr_is_lawful given (λ k d lt. made k d lt (ends k d lt))))

pub type_fits : (ty : RefType) → HeapTypeFits ty.heap_type → ref_type.InRange ty
type_fits ty fits = in_range_of ref_type Lawful-ref-type ty (ref_written ty fits)

pub not_both : (b : Bool) → b ≡ true → b ≡ false → ⊥
not_both true e f = absurd cc
not_both false e f = absurd cc

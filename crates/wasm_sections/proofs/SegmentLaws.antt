-- The laws of data segments and of places in segments, and what is rewritten and written of them.
use Rattle.std.proofs.Common.{◌≡◌, ℕ, zero, suc, ◌<◌, Bool, true, false, eqb, cond, List, length, length-append, refl, sym, ap, subst, ◌∙◌, lit≤, arith, ◌+◌, ◌≤◌, not, ◌&&◌, [], ◌∷◌, ◌++◌, take, drop, Some, None, append_assoc, ◌^◌}
use Rattle.std.proofs.lemmas.Bool.{eqb-true}
use Rattle.std.proofs.lemmas.List.{take_at, drop_at}
use Rattle.wasm_codec.specs.formats.Combinators.{Format, ◌⊗◌, u32}
use Rattle.wasm_codec.specs.formats.Grammar.{TakesBytes, IsBytes}
use Rattle.wasm_codec.specs.Lawful.{IsLawful}
use Rattle.wasm_codec.specs.formats.Bodies.{byte_list}
use Rattle.wasm_codec.specs.Leb128.{unsigned_leb128, digits_of}
use Rattle.wasm_codec.specs.Places.{Place, place, unless}
use Rattle.wasm_codec.specs.Rewriter.{Rewriting, rewritten_at, rewriting_after, without}
use Rattle.wasm_codec.specs.Encoding.{byte_list_bytes, IsCount, IsMinimal}
use Rattle.wasm_codec.proofs.FormatLaws.{takes_bytes, not_longer, Lawful-never, Lawful-made, Lawful-both, Lawful-u32}
use Rattle.wasm_codec.proofs.BodyLaws.{Lawful-byte-list}
use Rattle.wasm_codec.proofs.RewriterLaws.{is_given, is_after, after_is}
use Rattle.wasm_codec.proofs.NumberLaws.{written}
use Rattle.wasm_instructions.specs.formats.Instructions.{Instruction}
use Rattle.wasm_sections.specs.declared.data.DataSegmentMode.{DataSegmentMode}
use Rattle.wasm_sections.specs.formats.EntryParts.{DataParts}
use Rattle.wasm_sections.specs.formats.Segments.{active_data, passive_data, first_data_part, any_data_part, passive_data_part, data_number, data_form, data_segment}
use Rattle.wasm_externals.specs.formats.PartCombinators.{numbered, numbered_bytes, part_if}
use Rattle.wasm_externals.specs.formats.Expressions.{expr}
use Rattle.wasm_externals.specs.ClosedExpressions.{IsClosed}
use Rattle.wasm_sections.specs.ClosedEntries.{IsClosedData}
use Rattle.wasm_sections.specs.SegmentBytes.{table_and_offset_bytes, data_mode_bytes, DataModeFits}
use Rattle.wasm_sections.specs.declared.data.DataSegmentMode.TheVariants as data_modes
use Rattle.wasm_externals.proofs.PartCombinatorLaws.{Lawful-numbered, number_takes}
use Rattle.wasm_externals.proofs.ExpressionLaws.{expr_is_lawful, in_expr}

-- what is left out takes a byte at least
pub left_out : {A : Type 0} {F : Format A} → IsLawful F → (bytes : List ℕ) (n : ℕ) (a : A) → (u32 ⊗ F).Encodes bytes (n, a) → F.InRange a × (length (F.bytes a) < length bytes)
left_out {A} {F} r bytes n a g =
    let some = number_takes g.0 n g.3 in
    let least = not_longer g.1 (F.bytes a) (r.minimal.least g.1 a g.4) in
    (r.in_range g.1 a g.4, omega (arith, some, least, ap (length {A = ℕ}) g.2, length-append g.0 g.1))

Lawful-data-form : (n : ℕ) → IsLawful (data_form n)
Lawful-data-form zero = Lawful-made (active_data 0) first_data_part (λ p. refl) (Lawful-both expr_is_lawful Lawful-byte-list)
Lawful-data-form (suc zero) = Lawful-made passive_data passive_data_part (λ b. refl) Lawful-byte-list
Lawful-data-form (suc (suc zero)) = Lawful-made (λ p. active_data p.0 p.1) any_data_part (λ p. refl) (Lawful-both Lawful-u32 (Lawful-both expr_is_lawful Lawful-byte-list))
Lawful-data-form n = Lawful-never

data_low : (d : DataParts) → data_number d < 128
data_low d = by d.mode where
  by : (mode : DataSegmentMode) → data_number (record { mode = mode; data_bytes = d.data_bytes }) < 128
  by data_modes.Passive = lit≤ tt
  by (data_modes.Active memory offset) = memories (eqb memory 0) where
    memories : (t : Bool) → cond t 0 2 < 128
    memories true = lit≤ tt
    memories false = lit≤ tt

-- a number that isn't its own: a memory 0 that is named
data_other : (n : ℕ) (bytes : List ℕ) (d : DataParts) → (data_form n).Encodes bytes d → (n ≡ data_number d → ⊥) → (data_form (data_number d)).InRange d × (length ((data_form (data_number d)).bytes d) < length bytes)
data_other zero bytes d g differs = absurd (differs (ap data_number g.2))
data_other (suc zero) bytes d g differs = absurd (differs (ap data_number g.2))
data_other (suc (suc zero)) bytes d g differs = subst (λ (d : DataParts). (data_form (data_number d)).InRange d × (length ((data_form (data_number d)).bytes d) < length bytes)) g.2 (by (eqb g.0.0 0) refl) where
  by : (t : Bool) → eqb g.0.0 0 ≡ t → (data_form (data_number (active_data g.0.0 g.0.1))).InRange (active_data g.0.0 g.0.1) × (length ((data_form (data_number (active_data g.0.0 g.0.1))).bytes (active_data g.0.0 g.0.1)) < length bytes)
  by true is =
      let p = left_out (Lawful-both expr_is_lawful Lawful-byte-list) bytes g.0.0 g.0.1 g.1 in
      rw is ((p.0, ap (λ (m : ℕ). active_data m g.0.1) (sym (eqb-true g.0.0 0 is))), p.1)
  by false is = absurd (differs (rw is refl ∙ ap data_number g.2))
data_other n bytes d g differs = absurd g

pub data_is_lawful : IsLawful data_segment
unfolding data_segment
data_is_lawful = Lawful-numbered data_number data_form (record { lawful = Lawful-data-form; low = data_low; other = data_other })

pub data_takes : TakesBytes data_segment.Encodes
unfolding data_segment
data_takes = takes_bytes data_is_lawful refl

-- ---- rewriting

-- no other number is that of a form
pub no_data_form : (n : ℕ) (p : Place) → (n ≡ 0 → ⊥) → (n ≡ 1 → ⊥) → (n ≡ 2 → ⊥) → (data_form n).at p ≡ None
no_data_form zero p a b c = absurd (a refl)
no_data_form (suc zero) p a b c = absurd (b refl)
no_data_form (suc (suc zero)) p a b c = absurd (c refl)
no_data_form (suc (suc (suc n))) p a b c = refl

unless_true : (p : Place) → unless true p ≡ place false p.left
unless_true p = ap (λ (s : Bool). place s p.left) (and_false p.minimal) where
  and_false : (b : Bool) → (b && false) ≡ false
  and_false true = refl
  and_false false = refl

unless_false : (p : Place) → unless false p ≡ p
unless_false p = ap (λ (s : Bool). place s p.left) (and_true p.minimal) where
  and_true : (b : Bool) → (b && true) ≡ b
  and_true true = refl
  and_true false = refl

module _ {V : Type 0} (number_of : V → ℕ) (G : ℕ → Format V) (old start : Rewriting) (n : ℕ) (begun : rewritten_at u32 old ≡ Some (n, start)) where
  -- a value that was read by its own number
  pub by_its_number : (end : Rewriting) (v : V) → (G n).at start.place ≡ Some (v, end.place) → end.done ≡ start.done ++ (G n).bytes v → end.rest ≡ start.rest → n ≡ number_of v → eqb n (number_of v) ≡ true → rewriting_after (numbered number_of G) old ≡ Some end
  by_its_number end v read written rest is same =
      let g = is_given u32 old n start begun in
      let own : not (eqb n (number_of v)) ≡ false = ap not same in
      let at : (numbered number_of G).at old.place ≡ Some (v, end.place) = rw (g.is_read, read, own) (ap (λ (p : Place). Some (v, p)) (unless_false end.place)) in
      let bytes : end.done ≡ old.done ++ numbered_bytes number_of G v = rw (← is) (written ∙ ap (λ (d : List ℕ). d ++ (G n).bytes v) g.written ∙ append_assoc old.done (unsigned_leb128 n) ((G n).bytes v)) in
      after_is (numbered number_of G) old end v at bytes (rest ∙ g.rest)

  -- and one that was read by another number, and is written by its own
  pub by_another_number : (end : Place) (new : Rewriting) (v : V) → (G n).at start.place ≡ Some (v, end) → eqb n (number_of v) ≡ false → new.place ≡ place false end.left → new.done ≡ old.done ++ numbered_bytes number_of G v → new.rest ≡ old.rest
      → rewriting_after (numbered number_of G) old ≡ Some new
  by_another_number end new v read differs left written rest =
      let g = is_given u32 old n start begun in
      let at : (numbered number_of G).at old.place ≡ Some (v, new.place) = rw (g.is_read, read, differs, left) (ap (λ (p : Place). Some (v, p)) (unless_true end)) in
      after_is (numbered number_of G) old new v at written rest

pub active_rewritten : (old start end : Rewriting) → rewritten_at u32 old ≡ Some (0, start) → rewriting_after (expr ⊗ byte_list) start ≡ Some end → rewriting_after data_segment old ≡ Some end
unfolding data_segment
active_rewritten old start end begun e =
    let one = is_after (expr ⊗ byte_list) start end e in
    by_its_number data_number data_form old start 0 begun end (active_data 0 one.value) (rw one.given.is_read refl) one.given.written one.given.rest refl refl

pub passive_rewritten : (old start end : Rewriting) → rewritten_at u32 old ≡ Some (1, start) → rewriting_after byte_list start ≡ Some end → rewriting_after data_segment old ≡ Some end
unfolding data_segment
passive_rewritten old start end begun e =
    let one = is_after byte_list start end e in
    by_its_number data_number data_form old start 1 begun end (passive_data one.value) (rw one.given.is_read refl) one.given.written one.given.rest refl refl

-- a memory that isn't 0 stays named
pub memory_kept : (old start mid end : Rewriting) (memory : ℕ) → rewritten_at u32 old ≡ Some (2, start) → rewritten_at u32 start ≡ Some (memory, mid) → rewriting_after (expr ⊗ byte_list) mid ≡ Some end → eqb memory 0 ≡ false → rewriting_after data_segment old ≡ Some end
unfolding data_segment
memory_kept old start mid end memory begun named e other =
    let g = is_given u32 start memory mid named in
    let one = is_after (expr ⊗ byte_list) mid end e in
    let written : end.done ≡ start.done ++ (unsigned_leb128 memory ++ (expr ⊗ byte_list).bytes one.value) = one.given.written ∙ ap (λ (d : List ℕ). d ++ (expr ⊗ byte_list).bytes one.value) g.written ∙ append_assoc start.done (unsigned_leb128 memory) ((expr ⊗ byte_list).bytes one.value) in
    by_its_number data_number data_form old start 2 begun end (active_data memory one.value) (rw (g.is_read, one.given.is_read) refl) written (one.given.rest ∙ g.rest) (rw other refl) (rw other refl)

two_digits : unsigned_leb128 2 ++ unsigned_leb128 0 ≡ 2 ∷ unsigned_leb128 0
unfolding unsigned_leb128 digits_of
two_digits = refl

-- memory 0 is left unnamed: what was its index is the number of the form
pub memory_left_out : (old start mid end : Rewriting) (mark : ℕ) → rewritten_at u32 old ≡ Some (2, start) → rewritten_at u32 start ≡ Some (0, mid) → rewriting_after (expr ⊗ byte_list) mid ≡ Some end → mark ≡ length old.done → rewriting_after data_segment old ≡ Some (without mark 1 end)
unfolding data_segment
memory_left_out old start mid end mark begun named e at =
    let b = is_given u32 old 2 start begun in
    let g = is_given u32 start 0 mid named in
    let one = is_after (expr ⊗ byte_list) mid end e in
    let back = unsigned_leb128 0 ++ (expr ⊗ byte_list).bytes one.value in
    let written : end.done ≡ old.done ++ ((2 ∷ []) ++ back) =
    one.given.written ∙ ap (λ (d : List ℕ). d ++ (expr ⊗ byte_list).bytes one.value) (g.written ∙ ap (λ (d : List ℕ). d ++ unsigned_leb128 0) b.written) ∙ regroup old.done (unsigned_leb128 2) (unsigned_leb128 0) ((expr ⊗ byte_list).bytes one.value)
    ∙ ap (λ (d : List ℕ). old.done ++ (d ++ (expr ⊗ byte_list).bytes one.value)) two_digits in
    let front : take mark end.done ≡ old.done = ap (take mark) written ∙ take_at old.done ((2 ∷ []) ++ back) mark (sym at) in
    let rest : drop (mark + 1) end.done ≡ back = ap (drop (mark + 1)) (written ∙ sym (append_assoc old.done (2 ∷ []) back)) ∙ drop_at (old.done ++ (2 ∷ [])) back (mark + 1) (omega (arith, at, length-append old.done (2 ∷ []))) in
    by_another_number data_number data_form old start 2 begun end.place (without mark 1 end) (active_data 0 one.value) (rw (g.is_read, one.given.is_read) refl) refl refl (rw (front, rest) refl) (one.given.rest ∙ g.rest ∙ b.rest)
  where
    regroup : (d t l c : List ℕ) → ((d ++ t) ++ l) ++ c ≡ d ++ ((t ++ l) ++ c)
    regroup d t l c = simp append_assoc

-- its number was written, so the rewriter can take it out
pub number_there : (old start mid end : Rewriting) (memory mark : ℕ) → rewritten_at u32 old ≡ Some (2, start) → rewritten_at u32 start ≡ Some (memory, mid) → rewriting_after (expr ⊗ byte_list) mid ≡ Some end → mark ≡ length old.done → mark + 1 ≤ length end.done
unfolding unsigned_leb128 digits_of
number_there old start mid end memory mark begun named e at =
    let b = is_given u32 old 2 start begun in
    let g = is_given u32 start memory mid named in
    let one = is_after (expr ⊗ byte_list) mid end e in
    let two : length (unsigned_leb128 2) ≡ 1 = refl in
    omega (arith, at, two, ap (length {A = ℕ}) b.written, length-append old.done (unsigned_leb128 2), ap (length {A = ℕ}) g.written, length-append start.done (unsigned_leb128 memory), ap (length {A = ℕ}) one.given.written, length-append mid.done ((expr ⊗ byte_list).bytes one.value))

-- ---- writing

-- ---- data segments

pub data_mode_fits : (memory : ℕ) (offset : List Instruction) → memory < 2 ^ 32 → (IsClosed offset → IsMinimal expr.Encodes expr.bytes offset) → IsClosed offset → DataModeFits (data_modes.Active memory offset)
data_mode_fits memory offset small made closed = (small, in_expr offset (made closed))

pub first_memory_bytes : (memory : ℕ) (offset : List Instruction) → memory ≡ 0 → table_and_offset_bytes 0 None offset ≡ data_mode_bytes (data_modes.Active memory offset)
first_memory_bytes memory offset first = rw first refl

pub other_memory_bytes : (memory : ℕ) (offset : List Instruction) → eqb memory 0 ≡ false → table_and_offset_bytes 2 (Some memory) offset ≡ data_mode_bytes (data_modes.Active memory offset)
other_memory_bytes memory offset other = rw other refl

pub data_bytes_are : (mode : DataSegmentMode) (bytes : List ℕ) → data_mode_bytes mode ++ byte_list_bytes bytes ≡ data_segment.bytes (record { mode = mode; data_bytes = bytes })
unfolding data_segment part_if
data_bytes_are data_modes.Passive bytes = refl
data_bytes_are (data_modes.Active memory offset) bytes = by (eqb memory 0) refl where
  by : (t : Bool) → eqb memory 0 ≡ t → data_mode_bytes (data_modes.Active memory offset) ++ byte_list_bytes bytes ≡ data_segment.bytes (record { mode = data_modes.Active memory offset; data_bytes = bytes })
  by true is = rw is (append_assoc (unsigned_leb128 0) (expr.bytes offset) (byte_list_bytes bytes))
  by false is = rw is (append_assoc (unsigned_leb128 2) (unsigned_leb128 memory ++ expr.bytes offset) (byte_list_bytes bytes) ∙ ap (λ (l : List ℕ). unsigned_leb128 2 ++ l) (append_assoc (unsigned_leb128 memory) (expr.bytes offset) (byte_list_bytes bytes)))

data_there : (mode : DataSegmentMode) (bytes : List ℕ) → DataModeFits mode → IsBytes bytes → IsCount (length bytes) → data_segment.InRange (record { mode = mode; data_bytes = bytes })
unfolding data_segment
data_there data_modes.Passive bytes fits are few = ((are, few), refl)
data_there (data_modes.Active memory offset) bytes fits are few = by (eqb memory 0) refl where
  by : (t : Bool) → eqb memory 0 ≡ t → data_segment.InRange (record { mode = data_modes.Active memory offset; data_bytes = bytes })
  by true is = rw is ((fits.1, (are, few)), ap (λ (m : ℕ). record { mode = data_modes.Active m offset; data_bytes = bytes }) (sym (eqb-true memory 0 is)))
  by false is = rw is ((fits.0, (fits.1, (are, few))), refl)

pub data_written : (d : DataParts) → (IsClosedData d.mode → DataModeFits d.mode) → IsBytes d.data_bytes → IsCount (length d.data_bytes) → IsClosedData d.mode → IsMinimal data_segment.Encodes data_segment.bytes d
data_written d fits are few closed = written data_is_lawful.minimal d (data_there d.mode d.data_bytes (fits closed) are few)

-- The laws of the formats of operands.
use Rattle.std.proofs.Common.{◌≡◌, ℕ, ◌+◌, ◌-◌, ◌^◌, ◌<◌, ◌≤◌, Bool, true, false, not, ◌&&◌, cond, ltb, eqb, List, [], ◌∷◌, ◌++◌, length, Some, refl, sym, ap, subst, ◌∙◌, length-append, inl, inr, arith, lit≤}
use Rattle.std.proofs.lemmas.Bool.{ltb-true, ltb-false, lt-ltb, le-ltb, eqb-true}
use Rattle.wasm_instructions.specs.declared.operands.control.BlockType.{BlockType}
use Rattle.wasm_instructions.specs.declared.operands.control.BlockType.TheVariants as blocks
use Rattle.wasm_instructions.specs.declared.operands.control.Catch.TheVariants as catches
use Rattle.wasm_instructions.specs.declared.operands.control.Handle.TheVariants as handles
use Rattle.wasm_instructions.specs.declared.operands.memory.MemArg.{MemArg}
use Rattle.wasm_instructions.specs.declared.operands.memory.Ordering.{Ordering}
use Rattle.wasm_instructions.specs.declared.operands.memory.Ordering.TheVariants as orderings
use Rattle.wasm_codec.specs.formats.Grammar.{Grammar, TakesBytes, Then, Mapped, Never, Either}
use Rattle.wasm_codec.specs.formats.Numbers.{EncodesU32, EncodesU64}
use Rattle.wasm_codec.specs.Leb128.{digits_of, unsigned_leb128}
use Rattle.wasm_codec.specs.Encoding.{IsMinimalOrLonger}
use Rattle.wasm_codec.proofs.Laws.{least_then}
use Rattle.wasm_codec.proofs.NumberLaws.{WritesMinimally-u32, WritesMinimally-u64}
use Rattle.wasm_codec.specs.formats.Combinators.{◌⊗◌, ◌⊗>◌, made, choose, never, u32, u64}
use Rattle.wasm_codec.proofs.FormatLaws.{IsShorter, IsFound, Every-made, Lawful-made, Lawful-made-as, Lawful-then, Lawful-both, Lawful-choose, Lawful-never, Lawful-one-byte, Lawful-byte-or, Lawful-variant, Lawful-or-else, Every-either, Tagged-or, Tagged-never, Lawful-u32, Lawful-u64, Lawful-index, takes_bytes}
use Rattle.wasm_codec.proofs.RawFormatLaws.{Lawful-raw, Lawful-little-endian}
use Rattle.wasm_types.specs.formats.Types.{abstract_type, ref_type, val_type}
use Rattle.wasm_types.proofs.TypeFormatLaws.{Lawful-val-type}
use Rattle.wasm_instructions.specs.formats.Operands.{empty_byte, block_type, catch_clause, handle_clause, nullables_byte, castop, in_first, in_memory, after_alignment, mem_arg, ordering_byte, ordering, from_halves, vector, lanes}
use Rattle.wasm_instructions.specs.OperandParts.{function_type_part, result_part, catch_byte, tag_and_label, label_alone, handle_byte, on_label_part, on_switch_part, all_nullables, mem_arg_bytes, MemArgInRange, is_named_first, halves_part}
use Rattle.wasm_codec.specs.Lawful.{WritesMinimally, IsLawful}

-- ---- block types

empty_found : (ty : BlockType) → IsFound empty_byte (blocks.Empty ∷ []) ty
empty_found blocks.Empty = (refl, refl)
empty_found (blocks.Result ty) = tt
empty_found (blocks.FunctionType index) = tt

pub Lawful-block-type : IsLawful block_type
unfolding block_type val_type ref_type abstract_type
Lawful-block-type =
    (Lawful-byte-or empty_byte (blocks.Empty ∷ []) empty_found refl (Every-either (Every-made (λ n. refl)) (Every-made (λ ty. refl)))
    (Lawful-variant blocks.FunctionType function_type_part (λ n. refl) refl (Every-made (λ ty. refl)) Lawful-index
    (Lawful-or-else refl (Lawful-made blocks.Result result_part (λ ty. refl) Lawful-val-type)))).lawful

-- ---- clauses

pub Lawful-catch : IsLawful catch_clause
unfolding catch_clause
Lawful-catch =
    (Tagged-or catch_byte 0x00 refl (lit≤ tt) (Every-made (λ p. refl)) (Lawful-made (λ p. catches.One p.0 p.1) tag_and_label (λ p. refl) (Lawful-both Lawful-u32 Lawful-u32))
    (Tagged-or catch_byte 0x01 refl (lit≤ tt) (Every-made (λ p. refl)) (Lawful-made (λ p. catches.OneRef p.0 p.1) tag_and_label (λ p. refl) (Lawful-both Lawful-u32 Lawful-u32))
    (Tagged-or catch_byte 0x02 refl (lit≤ tt) (Every-made (λ n. refl)) (Lawful-made catches.All label_alone (λ n. refl) Lawful-u32)
    (Tagged-or catch_byte 0x03 refl (lit≤ tt) (Every-made (λ n. refl)) (Lawful-made catches.AllRef label_alone (λ n. refl) Lawful-u32)
    Tagged-never)))).choice.lawful

pub Lawful-handle : IsLawful handle_clause
unfolding handle_clause
Lawful-handle =
    (Tagged-or handle_byte 0x00 refl (lit≤ tt) (Every-made (λ p. refl)) (Lawful-made (λ p. handles.OnLabel p.0 p.1) on_label_part (λ p. refl) (Lawful-both Lawful-u32 Lawful-u32))
    (Tagged-or handle_byte 0x01 refl (lit≤ tt) (Every-made (λ n. refl)) (Lawful-made handles.OnSwitch on_switch_part (λ n. refl) Lawful-u32)
    Tagged-never)).choice.lawful

-- ---- bytes from tables

pub catch_takes : TakesBytes catch_clause.Encodes
unfolding catch_clause
catch_takes = takes_bytes Lawful-catch refl

pub handle_takes : TakesBytes handle_clause.Encodes
unfolding handle_clause
handle_takes = takes_bytes Lawful-handle refl

nullables_found : (p : Bool × Bool) → IsFound nullables_byte all_nullables p
nullables_found (false, false) = (refl, refl)
nullables_found (true, false) = (refl, refl)
nullables_found (false, true) = (refl, refl)
nullables_found (true, true) = (refl, refl)

pub Lawful-castop : IsLawful castop
unfolding castop
Lawful-castop = Lawful-one-byte nullables_byte all_nullables nullables_found

ordering_found : (o : Ordering) → IsFound ordering_byte (orderings.SeqCst ∷ orderings.AcqRel ∷ []) o
ordering_found orderings.SeqCst = (refl, refl)
ordering_found orderings.AcqRel = (refl, refl)

pub Lawful-ordering : IsLawful ordering
unfolding ordering
Lawful-ordering = Lawful-one-byte ordering_byte (orderings.SeqCst ∷ orderings.AcqRel ∷ []) ordering_found

-- ---- vectors

pub Lawful-vector : IsLawful vector
unfolding vector
Lawful-vector = Lawful-made from_halves halves_part (λ p. refl) (Lawful-both (Lawful-little-endian 8) (Lawful-little-endian 8))

pub Lawful-lanes : IsLawful lanes
unfolding lanes
Lawful-lanes = Lawful-raw 16

-- ---- memory arguments

abbrev AfterEncodes : ℕ → Grammar MemArg
AfterEncodes n = (after_alignment n).Encodes

abbrev MemArgEncodes : Grammar MemArg
MemArgEncodes = Mapped (λ p. p.1) (Then EncodesU32 AfterEncodes)

-- ---- numbers in memory arguments

u32_in_range : (bytes : List ℕ) (n : ℕ) → EncodesU32 bytes n → n < 2 ^ 32
unfolding EncodesU32
u32_in_range bytes n g = g.2.1

u64_in_range : (bytes : List ℕ) (n : ℕ) → EncodesU64 bytes n → n < 2 ^ 64
unfolding EncodesU64
u64_in_range bytes n g = g.2.1

u32_has_bytes : (bytes : List ℕ) (n : ℕ) → EncodesU32 bytes n → 0 < length bytes
unfolding EncodesU32
u32_has_bytes [] n g = absurd g.0
u32_has_bytes (b ∷ bytes) n g = omega arith

-- a number below 128 is one byte
pub one_digit : (n : ℕ) → n < 128 → unsigned_leb128 n ≡ n ∷ []
unfolding unsigned_leb128 digits_of
one_digit n lt = rw (lt-ltb n 128 lt) refl

-- ---- the minimal encoding of a memory argument

-- a memory argument is its parts
parts_are : (arg : MemArg) (align memory : ℕ) → align ≡ arg.align → memory ≡ arg.memory_index → in_memory align (memory, arg.offset) ≡ arg
parts_are arg align memory e f = ap (λ (a : ℕ). in_memory a (memory, arg.offset)) e ∙ ap (λ (m : ℕ). in_memory arg.align (m, arg.offset)) f

mem_arg_encodes : (arg : MemArg) → MemArgInRange arg → MemArgEncodes (mem_arg_bytes arg) arg
mem_arg_encodes arg fits = by (eqb arg.memory_index 0) refl where
  align : arg.align < 64
  align = fits.align

  first : eqb arg.memory_index 0 ≡ true → AfterEncodes arg.align (unsigned_leb128 arg.offset) arg
  first is = rw (lt-ltb arg.align 64 align) (arg.offset, WritesMinimally-u64.encodes arg.offset fits.offset, parts_are arg arg.align 0 refl (sym (eqb-true arg.memory_index 0 is)))

  named : AfterEncodes (arg.align + 64) (unsigned_leb128 arg.memory_index ++ unsigned_leb128 arg.offset) arg
  named =
      let same : arg.align + 64 - 64 ≡ arg.align = omega arith in
      rw (le-ltb (arg.align + 64) 64 (omega arith), lt-ltb (arg.align + 64) 128 (omega arith))
      ((arg.memory_index, arg.offset), (unsigned_leb128 arg.memory_index, unsigned_leb128 arg.offset, refl, WritesMinimally-u32.encodes arg.memory_index fits.memory_index, WritesMinimally-u64.encodes arg.offset fits.offset), parts_are arg (arg.align + 64 - 64) arg.memory_index same refl)

  by : (test : Bool) → eqb arg.memory_index 0 ≡ test → Mapped (λ (p : ℕ × MemArg). p.1) (Then EncodesU32 AfterEncodes) (cond test (unsigned_leb128 arg.align ++ unsigned_leb128 arg.offset) (unsigned_leb128 (arg.align + 64) ++ (unsigned_leb128 arg.memory_index ++ unsigned_leb128 arg.offset))) arg
  by true is = ((arg.align, arg), (unsigned_leb128 arg.align, unsigned_leb128 arg.offset, refl, WritesMinimally-u32.encodes arg.align (omega arith), first is), refl)
  by false not = ((arg.align + 64, arg), (unsigned_leb128 (arg.align + 64), unsigned_leb128 arg.memory_index ++ unsigned_leb128 arg.offset, refl, WritesMinimally-u32.encodes (arg.align + 64) (omega arith), named), refl)

-- ---- every encoding of a memory argument

abbrev IsMemArg : List ℕ → MemArg → Type 0
IsMemArg bytes arg = MemArgInRange arg × IsMinimalOrLonger bytes (mem_arg_bytes arg)

in_first_is : (bytes prefix back : List ℕ) (n offset : ℕ) → bytes ≡ prefix ++ back → EncodesU32 prefix n → n < 64 → EncodesU64 back offset → IsMemArg bytes (in_first n offset)
in_first_is bytes prefix back n offset e g lt h =
    (record { align = lt; memory_index = omega arith; offset = u64_in_range back offset h }, least_then bytes prefix back (unsigned_leb128 n) (unsigned_leb128 offset) e (WritesMinimally-u32.least prefix n g) (WritesMinimally-u64.least back offset h))

-- memory 0 with its index is longer
named_first : (bytes prefix mid back : List ℕ) (n offset : ℕ) → bytes ≡ prefix ++ (mid ++ back) → EncodesU32 prefix n → 64 ≤ n → n < 128 → EncodesU32 mid 0 → EncodesU64 back offset → IsMinimalOrLonger bytes (unsigned_leb128 (n - 64) ++ unsigned_leb128 offset)
named_first bytes prefix mid back n offset e g le lt h o =
    let one : length (unsigned_leb128 (n - 64)) ≡ 1 = ap (length {A = ℕ}) (one_digit (n - 64) (omega arith)) in
    inr (rw e (at_least (length back) (length (unsigned_leb128 offset)) one (shorter back (unsigned_leb128 offset) (WritesMinimally-u64.least back offset o))))
  where
    shorter : (b t : List ℕ) → IsMinimalOrLonger b t → length t ≤ length b
    shorter b t (inl p) = omega (arith, ap (length {A = ℕ}) p)
    shorter b t (inr p) = omega arith

    at_least : (b t : ℕ) → length (unsigned_leb128 (n - 64)) ≡ 1 → length (unsigned_leb128 offset) ≤ length back → length (unsigned_leb128 (n - 64) ++ unsigned_leb128 offset) < length (prefix ++ (mid ++ back))
    at_least b t one le = omega (arith, length-append (unsigned_leb128 (n - 64)) (unsigned_leb128 offset), length-append prefix (mid ++ back), length-append mid back, u32_has_bytes prefix n g, u32_has_bytes mid 0 h)

in_memory_is : (bytes prefix back mid last : List ℕ) (n memory offset : ℕ) → bytes ≡ prefix ++ back → back ≡ mid ++ last → EncodesU32 prefix n → 64 ≤ n → n < 128 → EncodesU32 mid memory → EncodesU64 last offset → IsMemArg bytes (in_memory (n - 64) (memory, offset))
in_memory_is bytes prefix back mid last n memory offset e f g le lt h o =
    (record { align = omega arith; memory_index = u32_in_range mid memory h; offset = u64_in_range last offset o }, by (eqb memory 0) refl)
  where
    same : n - 64 + 64 ≡ n
    same = omega arith

    whole : bytes ≡ prefix ++ (mid ++ last)
    whole = e ∙ ap (λ (t : List ℕ). prefix ++ t) f

    by : (test : Bool) → eqb memory 0 ≡ test → IsMinimalOrLonger bytes (cond test (unsigned_leb128 (n - 64) ++ unsigned_leb128 offset) (unsigned_leb128 (n - 64 + 64) ++ (unsigned_leb128 memory ++ unsigned_leb128 offset)))
    by true is = named_first bytes prefix mid last n offset whole g le lt (subst (λ (m : ℕ). EncodesU32 mid m) (eqb-true memory 0 is) h) o
    by false not = subst (λ (m : ℕ). IsMinimalOrLonger bytes (unsigned_leb128 m ++ (unsigned_leb128 memory ++ unsigned_leb128 offset))) (sym same)
        (least_then bytes prefix (mid ++ last) (unsigned_leb128 n) (unsigned_leb128 memory ++ unsigned_leb128 offset) whole (WritesMinimally-u32.least prefix n g)
        (least_then (mid ++ last) mid last (unsigned_leb128 memory) (unsigned_leb128 offset) refl (WritesMinimally-u32.least mid memory h) (WritesMinimally-u64.least last offset o)))

mem_arg_is : (bytes : List ℕ) (arg : MemArg) → MemArgEncodes bytes arg → IsMemArg bytes arg
mem_arg_is bytes arg g = subst (IsMemArg bytes) g.2 (by (ltb g.0.0 64) refl (ltb g.0.0 128) refl g.1.4) where
  by : (s : Bool) → ltb g.0.0 64 ≡ s → (t : Bool) → ltb g.0.0 128 ≡ t
      → Either s (Mapped (in_first g.0.0) EncodesU64) (Either t (Mapped (in_memory (g.0.0 - 64)) (Then EncodesU32 (λ memory. EncodesU64))) Never) g.1.1 g.0.1 → IsMemArg bytes g.0.1
  by true low t t-is h = subst (IsMemArg bytes) h.2 (in_first_is bytes g.1.0 g.1.1 g.0.0 h.0 g.1.2 g.1.3 (ltb-true _ _ low) h.1)
  by false high true low h = subst (IsMemArg bytes) h.2 (in_memory_is bytes g.1.0 g.1.1 h.1.0 h.1.1 g.0.0 h.0.0 h.0.1 g.1.2 h.1.2 g.1.3 (ltb-false _ _ high) (ltb-true _ _ low) h.1.3 h.1.4)
  by false high false higher h = absurd h

pub WritesMinimally-mem-arg : WritesMinimally MemArgEncodes MemArgInRange mem_arg_bytes
WritesMinimally-mem-arg = record {
  encodes = mem_arg_encodes;
  again = λ bytes arg g. mem_arg_encodes arg (mem_arg_is bytes arg g).0;
  least = λ bytes arg g. (mem_arg_is bytes arg g).1;
}

Lawful-after-alignment : (n : ℕ) → IsLawful (after_alignment n)
Lawful-after-alignment n =
    Lawful-choose (ltb n 64) (Lawful-made (in_first n) (λ arg. Some arg.offset) (λ offset. refl) Lawful-u64)
    (Lawful-choose (ltb n 128) (Lawful-made (in_memory (n - 64)) (λ arg. Some (arg.memory_index, arg.offset)) (λ p. refl) (Lawful-both Lawful-u32 Lawful-u64))
    Lawful-never)

abbrev Long : ℕ → Bool → Bool → MemArg → Type 0
Long n s t arg = IsShorter (not s && eqb arg.memory_index 0) (mem_arg_bytes arg) (unsigned_leb128 n ++ (choose s (made (in_first n) (λ arg. Some arg.offset) u64) (choose t (made (in_memory (n - 64)) (λ arg. Some (arg.memory_index, arg.offset)) (u32 ⊗ u64)) never)).bytes arg)

-- naming memory 0 takes a longer encoding, and the rest is as it is written
named_is_longer : (prefix : List ℕ) (p : ℕ × MemArg) → (u32 ⊗> after_alignment).Encodes prefix p → IsShorter (is_named_first p) (mem_arg_bytes p.1) ((u32 ⊗> after_alignment).bytes p)
named_is_longer prefix p g = by (ltb p.0 64) refl (ltb p.0 128) refl g.4 where
  named : (m offset : ℕ) → 64 ≤ p.0 → p.0 < 128 → (z : Bool) → eqb m 0 ≡ z → IsShorter z (cond z (unsigned_leb128 (p.0 - 64) ++ unsigned_leb128 offset) (unsigned_leb128 (p.0 - 64 + 64) ++ (unsigned_leb128 m ++ unsigned_leb128 offset))) (unsigned_leb128 p.0 ++ (unsigned_leb128 m ++ unsigned_leb128 offset))
  named m offset le lt true is =
      let zero : m ≡ 0 = eqb-true m 0 is in
      let a : length (unsigned_leb128 (p.0 - 64)) ≡ 1 = ap (length {A = ℕ}) (one_digit (p.0 - 64) (omega arith)) in
      let b : length (unsigned_leb128 p.0) ≡ 1 = ap (length {A = ℕ}) (one_digit p.0 lt) in
      let c : length (unsigned_leb128 m) ≡ 1 = ap (length {A = ℕ}) (one_digit m (omega arith)) in
      omega (arith, a, b, c, length-append (unsigned_leb128 (p.0 - 64)) (unsigned_leb128 offset), length-append (unsigned_leb128 p.0) (unsigned_leb128 m ++ unsigned_leb128 offset), length-append (unsigned_leb128 m) (unsigned_leb128 offset))
  named m offset le lt false is =
      let same : p.0 - 64 + 64 ≡ p.0 = omega arith in
      ap (λ (k : ℕ). unsigned_leb128 k ++ (unsigned_leb128 m ++ unsigned_leb128 offset)) same

  by : (s : Bool) → ltb p.0 64 ≡ s → (t : Bool) → ltb p.0 128 ≡ t
      → Either s (Mapped (in_first p.0) EncodesU64) (Either t (Mapped (in_memory (p.0 - 64)) (Then EncodesU32 (λ memory. EncodesU64))) Never) g.1 p.1 → Long p.0 s t p.1
  by true low t t-is h = subst (Long p.0 true t) h.2 refl
  by false high true low h = subst (Long p.0 false true) h.2 (named h.0.0 h.0.1 (ltb-false _ _ high) (ltb-true _ _ low) (eqb h.0.0 0) refl)
  by false high false higher h = absurd h

pub Lawful-mem-arg : IsLawful mem_arg
unfolding mem_arg
Lawful-mem-arg = Lawful-made-as is_named_first (λ p. p.1) mem_arg_bytes MemArgInRange (Lawful-then Lawful-u32 Lawful-after-alignment) WritesMinimally-mem-arg (λ bytes arg g. (mem_arg_is bytes arg g).0) named_is_longer

-- the laws of operands that are items of lists, for functions that name them
pub ruleset item_laws = (Lawful-catch, catch_takes, Lawful-handle, handle_takes)

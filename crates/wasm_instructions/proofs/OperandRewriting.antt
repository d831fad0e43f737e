-- The laws of memory arguments that name memory 0, which are taken without its index.
use Rattle.std.proofs.Common.{◌≡◌, ℕ, ◌+◌, ◌-◌, ◌<◌, ◌≤◌, Bool, true, false, List, [], ◌∷◌, ◌++◌, length, set, take, drop, Some, refl, sym, ap, subst, ◌∙◌, append_assoc, append-nil, length-append, arith}
use Rattle.std.proofs.lemmas.Bool.{lt-ltb, le-ltb}
use Rattle.std.proofs.Math.Bool.{and-false}
use Rattle.std.proofs.lemmas.List.{take_at, drop_at, set_at, length-take-le, length-drop}
use Rattle.wasm_codec.specs.Leb128.{unsigned_leb128}
use Rattle.wasm_codec.specs.Inputs.{Took, IfWrites, left_out, overwritten}
use Rattle.wasm_codec.specs.Places.{Place, place}
use Rattle.wasm_codec.specs.Rewriter.{Rewriting, rewritten_at, rewriting_after, without, with_byte}
use Rattle.wasm_codec.specs.formats.Combinators.{u32, u64}
use Rattle.wasm_codec.proofs.InputLaws.{rewriter_gives, rewriter_passes}
use Rattle.wasm_codec.proofs.Laws.{some_is}
use Rattle.wasm_codec.proofs.RewriterLaws.{is_given, is_after, after_is}
use Rattle.wasm_instructions.specs.declared.operands.memory.MemArg.{MemArg}
use Rattle.wasm_instructions.specs.formats.Operands.{in_memory, mem_arg}
use Rattle.wasm_instructions.proofs.OperandFormatLaws.{one_digit}

-- ---- memory arguments that name memory 0

-- what was read and written of one
record Named (old offset : Rewriting) (align : ℕ) : Type 0 where
  value : ℕ
  is_read : mem_arg.at old.place ≡ Some (in_memory (align - 64) (0, value), place false offset.place.left)
  written : offset.done ≡ old.done ++ (align ∷ (0 ∷ unsigned_leb128 value))
  rest : offset.rest ≡ old.rest

named : (old first memory offset : Rewriting) (align index : ℕ) → 64 ≤ align → align < 128 → index ≡ 0 → rewritten_at u32 old ≡ Some (align, first) → rewritten_at u32 first ≡ Some (index, memory) → rewriting_after u64 memory ≡ Some offset → Named old offset align
unfolding mem_arg
named old first memory offset align index high low zero e f g =
    let a = is_given u32 old align first e in
    let m = is_given u32 first index memory f in
    let o = is_after u64 memory offset g in
    record {
      value = o.value;
      is_read = rw (a.is_read, le-ltb align 64 high, lt-ltb align 128 low, m.is_read, o.given.is_read, zero, le-ltb align 64 high) (ap (λ (s : Bool). Some (in_memory (align - 64) (0, o.value), place s offset.place.left)) (and-false offset.place.minimal));
      written = o.given.written ∙ ap (λ (t : List ℕ). t ++ unsigned_leb128 o.value) (m.written ∙ ap (λ (t : List ℕ). t ++ unsigned_leb128 index) a.written)
          ∙ rw (one_digit align low, zero, one_digit 0 (omega arith)) (regroup old.done (align ∷ []) (0 ∷ []) (unsigned_leb128 o.value));
      rest = o.given.rest ∙ m.rest ∙ a.rest;
    }
  where
    regroup : (d t l c : List ℕ) → ((d ++ t) ++ l) ++ c ≡ d ++ (t ++ (l ++ c))
    regroup d t l c = simp append_assoc

-- the index is left out
named_left_out : (old first memory offset : Rewriting) (align index mark : ℕ) → 64 ≤ align → align < 128 → index ≡ 0 → mark ≡ length old.done → rewritten_at u32 old ≡ Some (align, first) → rewritten_at u32 first ≡ Some (index, memory) → rewriting_after u64 memory ≡ Some offset
    → rewriting_after mem_arg old ≡ Some (with_byte mark (align - 64) (without mark 1 offset))
unfolding mem_arg
named_left_out old first memory offset align index mark high low zero at e f g =
    let n = named old first memory offset align index high low zero e f g in
    let back = unsigned_leb128 n.value in
    let front : take mark offset.done ≡ old.done = ap (take mark) n.written ∙ take_at old.done (align ∷ (0 ∷ back)) mark (sym at) in
    let split : old.done ++ (align ∷ (0 ∷ back)) ≡ (old.done ++ align ∷ []) ++ (0 ∷ back) = sym (append_assoc old.done (align ∷ []) (0 ∷ back)) in
    let behind : drop (mark + 1) offset.done ≡ 0 ∷ back = ap (drop (mark + 1)) (n.written ∙ split) ∙ drop_at (old.done ++ align ∷ []) (0 ∷ back) (mark + 1) (omega (arith, at, length-append old.done (align ∷ []))) in
    let whole : take mark offset.done ++ drop (mark + 1) offset.done ≡ old.done ++ (0 ∷ back) = rw (front, behind) refl in
    let done : set (take mark offset.done ++ drop (mark + 1) offset.done) mark (align - 64) ≡ old.done ++ ((align - 64) ∷ back) = ap (λ (t : List ℕ). set t mark (align - 64)) whole ∙ set_at old.done 0 back (align - 64) mark (sym at) in
    let bytes : unsigned_leb128 (align - 64) ++ back ≡ (align - 64) ∷ back = rw (one_digit (align - 64) (omega arith)) refl in
    after_is mem_arg old (with_byte mark (align - 64) (without mark 1 offset)) (in_memory (align - 64) (0, n.value)) n.is_read (done ∙ ap (λ (t : List ℕ). old.done ++ t) (sym bytes)) n.rest

-- there are at least the two bytes of the alignment and the index
named_long : (old first memory offset : Rewriting) (align index : ℕ) → 64 ≤ align → align < 128 → index ≡ 0 → rewritten_at u32 old ≡ Some (align, first) → rewritten_at u32 first ≡ Some (index, memory) → rewriting_after u64 memory ≡ Some offset → length old.done + 2 ≤ length offset.done
named_long old first memory offset align index high low zero e f g =
    let n = named old first memory offset align index high low zero e f g in
    omega (arith, ap (length {A = ℕ}) n.written, length-append old.done (align ∷ (0 ∷ unsigned_leb128 n.value)))

without_long : (r : Rewriting) (mark : ℕ) → mark + 1 ≤ length r.done → length (without mark 1 r).done + 1 ≡ length r.done
without_long r mark le = omega (arith, length-append (take mark r.done) (drop (mark + 1) r.done), length-take-le mark r.done (omega arith), length-drop (mark + 1) r.done)

-- ---- the same of any input

-- what was read of one
named_read : (old first memory offset : Place) (align index value : ℕ) → 64 ≤ align → align < 128 → index ≡ 0 → u32.at old ≡ Some (align, first) → u32.at first ≡ Some (index, memory) → u64.at memory ≡ Some (value, offset)
    → mem_arg.at old ≡ Some (in_memory (align - 64) (index, value), place false offset.left)
unfolding mem_arg
named_read old first memory offset align index value high low zero a m o =
    rw (a, le-ltb align 64 high, lt-ltb align 128 low, m, o, zero, le-ltb align 64 high) (ap (λ (s : Bool). Some (in_memory (align - 64) (0, value), place s offset.left)) (and-false offset.minimal))

-- the index of memory 0 is left out
pub named_taken : (writes : Bool) (old first memory offset cut new : Rewriting) (align index value mark : ℕ) → 64 ≤ align → align < 128 → index ≡ 0 → mark ≡ length old.done → Took writes u32 old first align → Took writes u32 first memory index → Took writes u64 memory offset value
    → cut ≡ left_out writes mark 1 offset → new ≡ overwritten writes mark (align - 64) cut → Took writes mem_arg old new (in_memory (align - 64) (index, value))
named_taken true old first memory offset cut new align index value mark high low zero at a m o cut-is new-is =
    let is : new ≡ with_byte mark (align - 64) (without mark 1 offset) = rw (new-is, cut-is) refl in
    let left = named_left_out old first memory offset align index mark high low zero at (rewriter_gives u32 old first align a) (rewriter_gives u32 first memory index m) (rewriter_passes u64 memory offset value o) in
    let one = is_after mem_arg old new (rw is left) in
    let read = named_read old.place first.place memory.place offset.place align index value high low zero a.read m.read o.read in
    let same : in_memory (align - 64) (index, value) ≡ one.value = ap (λ (x : MemArg × Place). x.0) (some_is (in_memory (align - 64) (index, value), place false offset.place.left) (one.value, new.place) (sym read ∙ one.given.is_read)) in
    subst (λ (v : MemArg). Took true mem_arg old new v) (sym same) (record { read = one.given.is_read; written = one.given.written; rest = one.given.rest })
named_taken false old first memory offset cut new align index value mark high low zero at a m o cut-is new-is =
    let read = named_read old.place first.place memory.place offset.place align index value high low zero a.read m.read o.read in
    rw (new-is, cut-is) (record { read = read; written = o.written ∙ ap (λ (t : List ℕ). t ++ []) (m.written ∙ ap (λ (t : List ℕ). t ++ []) a.written) ∙ simp append-nil; rest = o.rest ∙ m.rest ∙ a.rest })

-- there are the bytes that are left out
pub named_room : (writes : Bool) (old first memory offset : Rewriting) (align index value mark : ℕ) → 64 ≤ align → align < 128 → index ≡ 0 → mark ≡ length old.done → Took writes u32 old first align → Took writes u32 first memory index → Took writes u64 memory offset value
    → IfWrites writes (mark + 1 ≤ length offset.done)
named_room true old first memory offset align index value mark high low zero at a m o =
    let long = named_long old first memory offset align index high low zero (rewriter_gives u32 old first align a) (rewriter_gives u32 first memory index m) (rewriter_passes u64 memory offset value o) in
    omega (arith, long, at)
named_room false old first memory offset align index value mark high low zero at a m o = tt

-- and, without them, there is the alignment
pub named_byte : (writes : Bool) (old first memory offset cut : Rewriting) (align index value mark : ℕ) → 64 ≤ align → align < 128 → index ≡ 0 → mark ≡ length old.done → Took writes u32 old first align → Took writes u32 first memory index → Took writes u64 memory offset value
    → cut ≡ left_out writes mark 1 offset → IfWrites writes (mark < length cut.done)
named_byte true old first memory offset cut align index value mark high low zero at a m o cut-is =
    let long = named_long old first memory offset align index high low zero (rewriter_gives u32 old first align a) (rewriter_gives u32 first memory index m) (rewriter_passes u64 memory offset value o) in
    let is = ap (λ (q : Rewriting). length q.done) cut-is in
    omega (arith, long, at, is, without_long offset mark (omega (arith, long, at)))
named_byte false old first memory offset cut align index value mark high low zero at a m o cut-is = tt

-- The laws of loads and stores whose alignment is padded.
use Rattle.std.proofs.Common.{◌≡◌, ℕ, ◌+◌, ◌-◌, ◌<◌, ◌≤◌, ◌%◌, ◌/◌, Bool, true, false, ltb, cond, List, [], ◌∷◌, ◌++◌, length, get_or, take, take_all, drop, length-drop, Option, Some, None, IfSome, Result, Ok, Err, refl, sym, ap, subst, ◌∙◌, append_assoc, arith}
use Rattle.std.proofs.lemmas.Bool.{lt-ltb}
use Rattle.std.proofs.Math.Bool.{and-true}
use Rattle.wasm_codec.specs.declared.reader.cursor.Fault.{Fault}
use Rattle.wasm_codec.specs.declared.reader.cursor.Fault.TheVariants as faults
use Rattle.wasm_codec.specs.declared.rewriter.scan.Scanned.{Scanned}
use Rattle.wasm_codec.specs.declared.rewriter.scan.Scanned.TheVariants as scanned
use Rattle.wasm_codec.specs.Leb128.{digits_of, unsigned_leb128}
use Rattle.wasm_codec.specs.Places.{Place, place}
use Rattle.wasm_codec.specs.Inputs.{Took}
use Rattle.wasm_codec.specs.formats.Combinators.{u32, u64}
use Rattle.wasm_codec.specs.formats.Grammar.{IsBytes}
use Rattle.wasm_codec.specs.Rewriter.{Rewriting, Rewrites, rewriting_after, cut, skipped}
use Rattle.wasm_codec.specs.Scanning.{KeepsDigits, RewritesScanned, Scans}
use Rattle.wasm_codec.proofs.FormatLaws.{Lawful-u32}
use Rattle.wasm_codec.proofs.Laws.{some_is}
use Rattle.wasm_codec.proofs.ListReading.{IsBytes-drop}
use Rattle.wasm_codec.proofs.PlaceLists.{step}
use Rattle.wasm_codec.proofs.RewriterLaws.{IsGiven, is_given, is_after, after_is}
use Rattle.wasm_codec.proofs.Shortening.{kept_is, scanned_rewritten}
use Rattle.wasm_instructions.specs.declared.table.call.Operands.TheVariants as operands
use Rattle.wasm_instructions.specs.declared.table.opcode.Kind.TheVariants as kinds
use Rattle.wasm_instructions.specs.formats.Instructions.{opcode, operands_format, instruction}
use Rattle.wasm_instructions.specs.formats.Operands.{in_first, mem_arg}
use Rattle.wasm_instructions.specs.ScannedOpcodes.{HasOpcode, IsPaddedAlignment, IsPaddedLoad}
use Rattle.wasm_instructions.proofs.CallRewriting.{after_opcode}
use Rattle.wasm_instructions.proofs.InstructionFormatLaws.{Lawful-opcode}

-- ---- the alignment

some_digits : (n : ℕ) → 0 < length (digits_of false 128 8 n)
unfolding digits_of
some_digits n = by (ltb n 128) where
  by : (t : Bool) → 0 < length (cond t (n ∷ []) ((128 + n % 128) ∷ digits_of false 128 7 (n / 128)))
  by true = omega arith
  by false = omega arith

-- the number that one digit encodes
digit_is : (n d : ℕ) → d ∷ [] ≡ unsigned_leb128 n → n ≡ d
unfolding unsigned_leb128 digits_of
digit_is n d e = by (ltb n 128) e where
  by : (t : Bool) → d ∷ [] ≡ cond t (n ∷ []) ((128 + n % 128) ∷ digits_of false 128 8 (n / 128)) → n ≡ d
  by true e = cc
  by false e = absurd (omega (arith, ap (length {A = ℕ}) e, some_digits (n / 128)))

pub padded_alignment : (bytes : List ℕ) (signed : Bool) (start more kept : ℕ) → 0 < length bytes → 128 ≤ get_or bytes 0 0 → get_or bytes 0 0 < 192 → start ≡ 0 → kept ≡ 1 → KeepsDigits signed bytes more kept → Scans u32 bytes (Some (scanned.Padded signed start more))
    → IsPaddedAlignment bytes (scanned.Padded signed start more)
padded_alignment [] signed start more kept some low high zero one k s = absurd (omega (arith, some))
padded_alignment (b ∷ bytes) signed start more kept some low high zero one k s =
    let here : KeepsDigits signed (drop start (b ∷ bytes)) more kept = rw zero k in
    let p = s.1 kept here in
    let digit : cut (start + kept) (b ∷ bytes) ≡ (b % 128) ∷ [] = rw (zero, one) refl in
    let value = digit_is p.value (b % 128) (sym digit ∙ p.minimal) in
    record {
      scans = s;
      small = λ n after e.
          let same : n ≡ p.value = ap (λ (x : ℕ × Place). x.0) (some_is (n, after) (p.value, place false (drop (start + more + 1) (b ∷ bytes))) (sym e ∙ p.read)) in
          omega (arith, same, value, low, high);
    }

pub behind_opcode : (bytes : List ℕ) (r : Option Scanned) → HasOpcode bytes kinds.Mem 1 → IfSome r (IsPaddedAlignment (take (length bytes - 1) (drop 1 bytes))) → IfSome r (IsPaddedLoad bytes)
behind_opcode bytes None op p = tt
behind_opcode bytes (Some s) op p = record { opcode = op; alignment = subst (λ (l : List ℕ). IsPaddedAlignment l s) (take_all (length bytes - 1) (drop 1 bytes) (omega (arith, length-drop 1 bytes))) p }

-- ---- the load

offset_after : (old aligned new : Rewriting) (n : ℕ) → n < 64 → IsGiven u32 old n aligned → rewriting_after u64 aligned ≡ Some new → rewriting_after mem_arg old ≡ Some new
unfolding mem_arg
offset_after old aligned new n low a e =
    let o = is_after u64 aligned new e in
    let read : mem_arg.at old.place ≡ Some (in_first n o.value, new.place) = rw (a.is_read, lt-ltb n 64 low, o.given.is_read, lt-ltb n 64 low) (ap (λ (s : Bool). Some (in_first n o.value, place s new.place.left)) (and-true new.place.minimal)) in
    let written : new.done ≡ old.done ++ (unsigned_leb128 n ++ unsigned_leb128 o.value) = o.given.written ∙ ap (λ (t : List ℕ). t ++ unsigned_leb128 o.value) a.written ∙ append_assoc old.done (unsigned_leb128 n) (unsigned_leb128 o.value) in
    after_is mem_arg old new (in_first n o.value) read written (o.given.rest ∙ a.rest)

mem_after : (old aligned new : Rewriting) (n : ℕ) (r : Result (Unit {0}) Fault) → n < 64 → IsGiven u32 old n aligned → Rewrites u64 aligned new r → Rewrites (operands_format kinds.Mem) old new r
unfolding mem_arg operands_format
mem_after old aligned new n (Err faults.Memory) low a none = none
mem_after old aligned new n (Err (faults.Malformed m)) low a none = rw (a.is_read, lt-ltb n 64 low, none) refl
mem_after old aligned new n (Ok done) low a e =
    let one = is_after mem_arg old new (offset_after old aligned new n low a e) in
    after_is (operands_format kinds.Mem) old new (operands.Mem one.value) (rw one.given.is_read refl) one.given.written one.given.rest

pub padded_load : (old mid aligned new : Rewriting) (left : List ℕ) (s : Scanned) (r : Result (Unit {0}) Fault) → IsBytes old.place.left → left ≡ old.place.left → IsPaddedLoad left s → mid ≡ skipped 1 old → RewritesScanned s mid aligned → Rewrites u64 aligned new r → Rewrites instruction old new r
padded_load old mid aligned new left s r fits is load skip shortens offset = by (subst (λ (l : List ℕ). IsPaddedLoad l s) is load) where
  by : IsPaddedLoad old.place.left s → Rewrites instruction old new r
  by load =
      let o = load.opcode in
      let one : length old.place.left - length (drop 1 old.place.left) ≡ 1 = omega (arith, o.within, length-drop 1 old.place.left) in
      let kept = kept_is Lawful-opcode old o.op (place true (drop 1 old.place.left)) fits o.reads refl in
      let g = is_given opcode old o.op (skipped 1 old) (rw one at kept) in
      let took : Took true opcode old mid o.op = rw skip (record { read = g.is_read; written = g.written; rest = g.rest }) in
      let left-is : drop 1 old.place.left ≡ mid.place.left = rw skip refl in
      let bytes : IsBytes mid.place.left = subst IsBytes left-is (IsBytes-drop old.place.left 1 fits) in
      let a = is_after u32 mid aligned (scanned_rewritten Lawful-u32 mid aligned (drop 1 old.place.left) left-is bytes s load.alignment.scans shortens) in
      let n = a.value in
      let x = step Lawful-u32 mid.place n aligned.place bytes a.given.is_read in
      let again = ap (λ (l : List ℕ). u32.at (place true l)) (left-is ∙ x.parts) ∙ Lawful-u32.reads.complete x.prefix n aligned.place.left true x.encodes in
      after_opcode o.op kinds.Mem old mid new r took o.kind_is (mem_after mid aligned new n r (load.alignment.small n _ again) a.given offset)

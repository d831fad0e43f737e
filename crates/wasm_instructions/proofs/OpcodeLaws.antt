-- The laws of the table of opcodes.
use Rattle.std.proofs.Common.{◌≡◌, ℕ, zero, suc, ◌+◌, ◌^◌, ◌<◌, ◌≤◌, Bool, true, false, leb, ltb, ◌&&◌, IsTrue, List, [], ◌∷◌, length, get_or, Option, Some, None, refl, sym, ap, subst, ◌∙◌, cond, inl, inr, arith}
use Rattle.std.proofs.lemmas.Bool.{ltb-true, leb-true, lt-leb, cases_lt}
use Rattle.std.proofs.Math.Bool.{and-false}
use Rattle.wasm_instructions.specs.declared.table.opcode.Kind.{Kind}
use Rattle.wasm_instructions.specs.declared.table.opcode.Kind.TheVariants as kinds
use Rattle.wasm_codec.proofs.Laws.{some_is}
use Rattle.wasm_instructions.specs.declared.table.opcode.Prefix.{Prefix}
use Rattle.wasm_instructions.specs.declared.table.opcode.Prefix.TheVariants as prefixes
use Rattle.wasm_instructions.specs.declared.table.opcode.Opcode.{Opcode}
use Rattle.wasm_instructions.specs.Instructions.{IsShort}
use Rattle.wasm_instructions.specs.formats.Opcodes.{Range, ranges, kind_among, opcode_kind}
use Rattle.wasm_instructions.specs.OpcodeTables.{kinds_from, end_below, IsTable}
use Rattle.wasm_instructions.specs.ScannedOpcodes.{scanned_of, scanned_from, IsScanTable}
use Rattle.wasm_instructions.specs.declared.normaliser.scan.opcodes.ScannedKind.{ScannedKind}
use Rattle.wasm_instructions.specs.declared.normaliser.scan.opcodes.ScannedKind.TheVariants as scanned

kinds_from-at : (rs : List Range) (first count i : ℕ) → i < count → get_or (kinds_from rs first count) i None ≡ kind_among rs (first + i)
kinds_from-at rs first zero i lt = absurd (omega arith)
kinds_from-at rs first (suc count) zero lt = ap (kind_among rs) (omega arith)
kinds_from-at rs first (suc count) (suc i) lt = kinds_from-at rs (first + 1) count i (omega arith) ∙ ap (kind_among rs) (omega arith)

both : (s t : Bool) → IsTrue (s && t) → (s ≡ true) × IsTrue t
both true t h = (refl, h)
both false t h = absurd cc

past_end : (rs : List Range) (end number : ℕ) → IsTrue (end_below rs end) → end ≤ number → kind_among rs number ≡ None
past_end [] end number h le = refl
past_end (r ∷ rs) end number h le =
    let parts = both (ltb r.last end) (end_below rs end) h in
    let past : leb number r.last ≡ false = lt-leb number r.last (omega (arith, ltb-true _ _ parts.0)) in
    rw (past, and-false) (past_end rs end number parts.1 le)

pub place_is : (places : List (Option Kind)) (rs : List Range) (number : ℕ) → IsTable places rs → number < length places → get_or places number None ≡ kind_among rs number
place_is places rs number h lt = ap (λ (ks : List (Option Kind)). get_or ks number None) h.each ∙ kinds_from-at rs 0 (length places) number lt ∙ ap (kind_among rs) (omega arith)

pub no_place : (places : List (Option Kind)) (rs : List Range) (number : ℕ) → IsTable places rs → length places ≤ number → None ≡ kind_among rs number
no_place places rs number h le = sym (past_end rs (length places) number h.end le)

-- an opcode's number is below the end of its table
pub in_table : (rs : List Range) (end number : ℕ) (k : Kind) → IsTrue (end_below rs end) → kind_among rs number ≡ Some k → number < end
in_table rs end number k h e = elim (cases_lt number end) [
  | inl lt ↦ lt
  | inr le ↦ let none = past_end rs end number h le in absurd cc
]

-- the opcodes of the table are short
pub in_table_short : (op : Opcode) (k : Kind) → opcode_kind op ≡ Some k → IsShort op
unfolding ranges
in_table_short op k e = by op.prefix op.number e where
  by : (p : Prefix) (n : ℕ) → kind_among (ranges p) n ≡ Some k → IsShort (record { prefix = p; number = n })
  by prefixes.None n e = in_table (ranges prefixes.None) 0xfb n k refl e
  by prefixes.Fb n e = in_table (ranges prefixes.Fb) (2 ^ 14) n k refl e
  by prefixes.Fc n e = in_table (ranges prefixes.Fc) (2 ^ 14) n k refl e
  by prefixes.Fd n e = in_table (ranges prefixes.Fd) (2 ^ 14) n k refl e
  by prefixes.Fe n e = in_table (ranges prefixes.Fe) (2 ^ 14) n k refl e

-- ---- branches on casts

-- the last number of a range of branches on casts is below 128
abbrev pub is_low_cast : ℕ → Kind → Bool
is_low_cast last kinds.Cast = ltb last 128
is_low_cast last k = true

abbrev pub casts_below : List Range → Bool
casts_below [] = true
casts_below (r ∷ rs) = is_low_cast r.last r.kind && casts_below rs

is_low : (k : Kind) (last n : ℕ) → k ≡ kinds.Cast → is_low_cast last k ≡ true → n ≤ last → n < 128
is_low k last n is low le =
    let test : is_low_cast last kinds.Cast ≡ true = subst (λ (k : Kind). is_low_cast last k ≡ true) is low in
    omega (arith, ltb-true last 128 test)

pub cast_is_low : (rs : List Range) (n : ℕ) → IsTrue (casts_below rs) → kind_among rs n ≡ Some kinds.Cast → n < 128
cast_is_low [] n h e = absurd cc
cast_is_low (r ∷ rs) n h e = by (leb r.first n) (leb n r.last) refl (cast_is_low rs n p.1) e where
  p : (is_low_cast r.last r.kind ≡ true) × IsTrue (casts_below rs)
  p = both (is_low_cast r.last r.kind) (casts_below rs) h

  by : (s t : Bool) → leb n r.last ≡ t → (kind_among rs n ≡ Some kinds.Cast → n < 128) → cond (s && t) (Some r.kind) (kind_among rs n) ≡ Some kinds.Cast → n < 128
  by true true within later e = is_low r.kind r.last n (some_is r.kind kinds.Cast e) p.0 (leb-true n r.last within)
  by true false within later e = later e
  by false t within later e = later e

-- ---- opcodes that are scanned

scanned_from-at : (rs : List Range) (first count i : ℕ) → i < count → get_or (scanned_from rs first count) i scanned.No ≡ scanned_of (kind_among rs (first + i))
scanned_from-at rs first zero i lt = absurd (omega arith)
scanned_from-at rs first (suc count) zero lt = ap (λ (n : ℕ). scanned_of (kind_among rs n)) (omega arith)
scanned_from-at rs first (suc count) (suc i) lt = scanned_from-at rs (first + 1) count i (omega arith) ∙ ap (λ (n : ℕ). scanned_of (kind_among rs n)) (omega arith)

-- the kind that is scanned so
abbrev pub kind_of : ScannedKind → Option Kind
kind_of scanned.No = None
kind_of scanned.Plain = Some kinds.None
kind_of scanned.Block = Some kinds.Block
kind_of scanned.Index = Some kinds.Index
kind_of scanned.Mem = Some kinds.Mem
kind_of scanned.I32 = Some kinds.I32
kind_of scanned.I64 = Some kinds.I64
kind_of scanned.F32 = Some kinds.F32
kind_of scanned.F64 = Some kinds.F64

kind_back : (o : Option Kind) (k : Kind) → kind_of (scanned_of o) ≡ Some k → o ≡ Some k
kind_back None k e = absurd cc
kind_back (Some kinds.None) k e = e
kind_back (Some kinds.Block) k e = e
kind_back (Some kinds.Index) k e = e
kind_back (Some kinds.TwoIndexes) k e = absurd cc
kind_back (Some kinds.BrTable) k e = absurd cc
kind_back (Some kinds.Types) k e = absurd cc
kind_back (Some kinds.TryTable) k e = absurd cc
kind_back (Some kinds.Mem) k e = e
kind_back (Some kinds.I32) k e = e
kind_back (Some kinds.I64) k e = e
kind_back (Some kinds.F32) k e = e
kind_back (Some kinds.F64) k e = e
kind_back (Some kinds.Heap) k e = absurd cc
kind_back (Some kinds.Resume) k e = absurd cc
kind_back (Some kinds.ResumeThrow) k e = absurd cc
kind_back (Some kinds.Cast) k e = absurd cc
kind_back (Some kinds.V128) k e = absurd cc
kind_back (Some kinds.Shuffle) k e = absurd cc
kind_back (Some kinds.Lane) k e = absurd cc
kind_back (Some kinds.MemLane) k e = absurd cc
kind_back (Some kinds.Order) k e = absurd cc
kind_back (Some kinds.OrderIndex) k e = absurd cc
kind_back (Some kinds.OrderTwoIndexes) k e = absurd cc

pub scanned_is : (places : List ScannedKind) (b : ℕ) (k : Kind) (s : ScannedKind) → IsScanTable places → b < 256 → get_or places b scanned.No ≡ s → kind_of s ≡ Some k → kind_among (ranges prefixes.None) b ≡ Some k
scanned_is places b k s table lt here is =
    let at : get_or places b scanned.No ≡ scanned_of (kind_among (ranges prefixes.None) b) = ap (λ (t : List ScannedKind). get_or t b scanned.No) table ∙ scanned_from-at (ranges prefixes.None) 0 256 b lt ∙ ap (λ (n : ℕ). scanned_of (kind_among (ranges prefixes.None) n)) (omega arith) in
    kind_back (kind_among (ranges prefixes.None) b) k (ap kind_of (sym at ∙ here) ∙ is)

-- Instructions with a prefix, `ref.null` and `br_table`, seen at once to be in their minimal encodings.
use Rattle.std.proofs.Common.{◌≡◌, ℕ, zero, suc, ◌+◌, ◌-◌, ◌*◌, ◌%◌, ◌/◌, ◌^◌, ◌<◌, ◌≤◌, true, List, [], ◌∷◌, ◌++◌, length, get_or, take, drop, drop-drop, length-drop, Option, Some, None, IfSome, refl, sym, subst, ◌∙◌, arith}
use Rattle.std.specs.List.{AllByRecursion}
use Rattle.std.proofs.lemmas.List.{take_more}
use Rattle.std.proofs.lemmas.Bool.{lt-ltb, le-ltb}
use Rattle.wasm_codec.specs.Places.{place, byte_at, times_at, u32_at}
use Rattle.wasm_codec.specs.Leb128.{digits_at, digits_of, unsigned_leb128}
use Rattle.wasm_codec.specs.Scanning.{Scans}
use Rattle.wasm_codec.specs.declared.rewriter.scan.Scanned.TheVariants.{Minimal}
use Rattle.wasm_codec.specs.formats.Combinators.{Format, ◌⊗◌, made, items, u32}
use Rattle.wasm_codec.proofs.NumberReading.{u32_one}
use Rattle.wasm_codec.proofs.ScanLaws.{get_dropped, made_scanned, pair_scanned}
use Rattle.wasm_instructions.specs.declared.table.opcode.Opcode.{Opcode}
use Rattle.wasm_instructions.specs.declared.table.opcode.Kind.{Kind}
use Rattle.wasm_instructions.specs.declared.table.opcode.Kind.TheVariants as kinds
use Rattle.wasm_instructions.specs.declared.table.call.Operands.TheVariants as operands
use Rattle.wasm_instructions.specs.OperandParts.{two_indexes_part, br_table_part}
use Rattle.wasm_instructions.specs.formats.Instructions.{call, opcode, operands_format, instruction}
use Rattle.wasm_instructions.specs.formats.Opcodes.{without_prefix, after_fb, after_fc, after_fd, after_fe, opcode_kind}
use Rattle.wasm_instructions.specs.ScannedOpcodes.{HasOpcode, IsKindAfter}
use Rattle.wasm_instructions.proofs.ScannedCalls.{one_byte}

-- ---- opcodes

-- a number of two digits
two_read : (a b : ℕ) (more : List ℕ) → 128 ≤ a → a < 256 → 0 < b → b < 128 → u32.at (place true (a ∷ b ∷ more)) ≡ Some (a - 128 + 128 * b, place true more)
unfolding u32_at unsigned_leb128 digits_at digits_of
two_read a b more from to some small =
    let n = a - 128 + 128 * b in
    let value : a % 128 + 128 * (b % 128 + 128 * 0) ≡ n = omega (arith, from, to, small) in
    rw (le-ltb a 128 from, lt-ltb b 128 small, value, lt-ltb n (2 ^ 32) (omega (arith, to, small)), le-ltb n 128 (omega (arith, some)), lt-ltb (n / 128) 128 (omega (arith, to, small))) refl

-- the opcode of a number after a prefix byte
after_is : (prefix : ℕ) (make : ℕ → Opcode) (number : ℕ) (kind : Kind) → ((bytes more : List ℕ) → u32.at (place true bytes) ≡ Some (number, place true more) → opcode.at (place true (prefix ∷ bytes)) ≡ Some (make number, place true more)) → opcode_kind (make number) ≡ Some kind → IsKindAfter prefix number kind
after_is prefix make number kind reads is = record { op = make number; kind_is = is; reads = reads }

fb_reads : (number : ℕ) (bytes more : List ℕ) → u32.at (place true bytes) ≡ Some (number, place true more) → opcode.at (place true (0xfb ∷ bytes)) ≡ Some (after_fb number, place true more)
unfolding opcode byte_at
fb_reads number bytes more e = rw e refl

fc_reads : (number : ℕ) (bytes more : List ℕ) → u32.at (place true bytes) ≡ Some (number, place true more) → opcode.at (place true (0xfc ∷ bytes)) ≡ Some (after_fc number, place true more)
unfolding opcode byte_at
fc_reads number bytes more e = rw e refl

fd_reads : (number : ℕ) (bytes more : List ℕ) → u32.at (place true bytes) ≡ Some (number, place true more) → opcode.at (place true (0xfd ∷ bytes)) ≡ Some (after_fd number, place true more)
unfolding opcode byte_at
fd_reads number bytes more e = rw e refl

fe_reads : (number : ℕ) (bytes more : List ℕ) → u32.at (place true bytes) ≡ Some (number, place true more) → opcode.at (place true (0xfe ∷ bytes)) ≡ Some (after_fe number, place true more)
unfolding opcode byte_at
fe_reads number bytes more e = rw e refl

-- the same for the kind that the table gives
if_kind : (prefix number : ℕ) (op : Opcode) (r : Option Kind) → r ≡ opcode_kind op → ((k : Kind) → opcode_kind op ≡ Some k → IsKindAfter prefix number k) → IfSome r (IsKindAfter prefix number)
if_kind prefix number op None e after = tt
if_kind prefix number op (Some k) e after = after k (sym e)

pub fb_kind : (number : ℕ) (r : Option Kind) → r ≡ opcode_kind (after_fb number) → IfSome r (IsKindAfter 0xfb number)
fb_kind number r e = if_kind 0xfb number (after_fb number) r e (λ k is. after_is 0xfb after_fb number k (fb_reads number) is)

pub fc_kind : (number : ℕ) (r : Option Kind) → r ≡ opcode_kind (after_fc number) → IfSome r (IsKindAfter 0xfc number)
fc_kind number r e = if_kind 0xfc number (after_fc number) r e (λ k is. after_is 0xfc after_fc number k (fc_reads number) is)

pub fd_kind : (number : ℕ) (r : Option Kind) → r ≡ opcode_kind (after_fd number) → IfSome r (IsKindAfter 0xfd number)
fd_kind number r e = if_kind 0xfd number (after_fd number) r e (λ k is. after_is 0xfd after_fd number k (fd_reads number) is)

pub fe_kind : (number : ℕ) (r : Option Kind) → r ≡ opcode_kind (after_fe number) → IfSome r (IsKindAfter 0xfe number)
fe_kind number r e = if_kind 0xfe number (after_fe number) r e (λ k is. after_is 0xfe after_fe number k (fe_reads number) is)

pub plain_opcode : (bytes : List ℕ) (k : Kind) → 0 < length bytes → get_or bytes 0 0 < 0xfb → opcode_kind (without_prefix (get_or bytes 0 0)) ≡ Some k → HasOpcode bytes k 1
plain_opcode [] k some lt is = absurd (omega (arith, some))
plain_opcode (b ∷ bytes) k some lt is = record { op = without_prefix b; within = omega arith; reads = one_byte b bytes true lt; kind_is = is }

pub one_digit_opcode : (bytes : List ℕ) (k : Kind) → 1 < length bytes → get_or bytes 1 0 < 128 → IsKindAfter (get_or bytes 0 0) (get_or bytes 1 0) k → HasOpcode bytes k 2
one_digit_opcode [] k some lt is = absurd (omega (arith, some))
one_digit_opcode (a ∷ []) k some lt is = absurd (omega (arith, some))
one_digit_opcode (a ∷ n ∷ bytes) k some lt is = record {
  op = is.op;
  within = omega arith;
  reads = is.reads (n ∷ bytes) bytes (u32_one (place true (n ∷ bytes)) (place true bytes) n lt refl);
  kind_is = is.kind_is;
}

pub two_digit_opcode : (bytes : List ℕ) (k : Kind) (number : ℕ) → 2 < length bytes → 128 ≤ get_or bytes 1 0 → get_or bytes 1 0 < 256 → 0 < get_or bytes 2 0 → get_or bytes 2 0 < 128 → number ≡ get_or bytes 1 0 - 128 + 128 * get_or bytes 2 0 → IsKindAfter (get_or bytes 0 0) number k → HasOpcode bytes k 3
two_digit_opcode [] k number some from to high small e is = absurd (omega (arith, some))
two_digit_opcode (a ∷ []) k number some from to high small e is = absurd (omega (arith, some))
two_digit_opcode (a ∷ m ∷ []) k number some from to high small e is = absurd (omega (arith, some))
two_digit_opcode (a ∷ m ∷ n ∷ bytes) k number some from to high small e is = record {
  op = is.op;
  within = omega arith;
  reads = is.reads (m ∷ n ∷ bytes) bytes (rw e (two_read m n bytes from to high small));
  kind_is = is.kind_is;
}

pub opcode_scanned : (bytes : List ℕ) (k : Kind) (size n : ℕ) → HasOpcode bytes k size → Scans (operands_format k) (drop size bytes) (Some (Minimal n)) → Scans instruction bytes (Some (Minimal (size + n)))
unfolding instruction
opcode_scanned bytes k size n has r =
    let left : drop n (drop size bytes) ≡ drop (size + n) bytes = drop-drop n size bytes in
    (omega (arith, has.within, r.0, length-drop size bytes), (call has.op r.1.0, rw (has.reads, has.kind_is, r.1.1, left) refl))

-- ---- operands

-- the operands of a kind, if their one part is found
pub found_made : {A B : Type 0} (make : A → B) (parts : B → Option A) (F : Format A) → ((a : A) → parts (make a) ≡ Some a) → (bytes : List ℕ) (r : Option ℕ) → IfSome r (λ n. Scans F bytes (Some (Minimal n))) → IfSome r (λ n. Scans (made make parts F) bytes (Some (Minimal n)))
found_made make parts F back bytes None h = h
found_made make parts F back bytes (Some n) h = made_scanned make parts F back bytes (Some (Minimal n)) h

pub two_scanned : (bytes : List ℕ) (m n : ℕ) → Scans u32 bytes (Some (Minimal m)) → Scans u32 (drop m bytes) (Some (Minimal n)) → Scans (operands_format kinds.TwoIndexes) bytes (Some (Minimal (m + n)))
unfolding operands_format
two_scanned bytes m n a b = made_scanned (λ p. operands.TwoIndexes p.0 p.1) two_indexes_part (u32 ⊗ u32) (λ p. refl) bytes (Some (Minimal (m + n))) (pair_scanned u32 u32 bytes m n a b)

-- ---- labels of one byte

abbrev pub AreOnes : List ℕ → Type 0
AreOnes = AllByRecursion (λ b. b < 128)

ones_also : (labels : List ℕ) (b : ℕ) → AreOnes labels → b < 128 → AreOnes (labels ++ b ∷ [])
ones_also [] b all lt = (lt, tt)
ones_also (a ∷ labels) b all lt = (all.0, ones_also labels b all.1 lt)

pub ones_taken : (bytes : List ℕ) (i : ℕ) → 1 + i < length bytes → AreOnes (take i (drop 1 bytes)) → get_or bytes (1 + i) 0 < 128 → AreOnes (take (i + 1) (drop 1 bytes))
ones_taken [] i within all lt = absurd (omega (arith, within))
ones_taken (n ∷ bytes) i within all lt =
    let next : 1 + i ≡ suc i = omega arith in
    rw (take_more bytes i 0 (omega (arith, within))) (ones_also (take i bytes) (get_or bytes i 0) all (rw next at lt))

ones_read : (count : ℕ) (bytes : List ℕ) → count ≤ length bytes → AreOnes (take count bytes) → (vs : List ℕ) × (times_at u32.at count (place true bytes) ≡ Some (vs, place true (drop count bytes)))
unfolding times_at
ones_read zero bytes within all = ([], refl)
ones_read (suc count) [] within all = absurd (omega (arith, within))
ones_read (suc count) (b ∷ bytes) within all =
    let vs = ones_read count bytes (omega (arith, within)) all.1 in
    (b ∷ vs.0, rw (u32_one (place true (b ∷ bytes)) (place true bytes) b all.0 refl, vs.1) refl)

-- one more than the labels that a count tells of
ones_split : (count : ℕ) (bytes : List ℕ) → count < length bytes → AreOnes (take (suc count) bytes) → AreOnes (take count bytes) × (get_or bytes count 0 < 128)
ones_split count [] lt all = absurd (omega (arith, lt))
ones_split zero (b ∷ bytes) lt all = (tt, all.0)
ones_split (suc count) (b ∷ bytes) lt all =
    let rest = ones_split count bytes (omega (arith, lt)) all.1 in
    ((all.0, rest.0), rest.1)

one_u32 : (bytes : List ℕ) → 0 < length bytes → get_or bytes 0 0 < 128 → Scans u32 bytes (Some (Minimal 1))
one_u32 [] some lt = absurd (omega (arith, some))
one_u32 (b ∷ bytes) some lt = (omega arith, (b, u32_one (place true (b ∷ bytes)) (place true bytes) b lt refl))

behind_count : (count : ℕ) (bytes : List ℕ) → count < 128 → count < length bytes → AreOnes (take (suc count) bytes) → Scans (operands_format kinds.BrTable) (count ∷ bytes) (Some (Minimal (1 + count + 1)))
unfolding operands_format
behind_count count bytes lt within all =
    let parts = ones_split count bytes within all in
    let labels = ones_read count bytes (omega (arith, within)) parts.0 in
    let next : 1 + count ≡ suc count = omega arith in
    let list : Scans (items u32) (count ∷ bytes) (Some (Minimal (1 + count))) = (omega (arith, within), (labels.0, rw (next, u32_one (place true (count ∷ bytes)) (place true bytes) count lt refl, labels.1) refl)) in
    let default : Scans u32 (drop (1 + count) (count ∷ bytes)) (Some (Minimal 1)) = rw next (one_u32 (drop count bytes) (omega (arith, within, length-drop count bytes)) (rw (get_dropped count bytes) parts.1)) in
    made_scanned (λ p. operands.BrTable p.0 p.1) br_table_part (items u32 ⊗ u32) (λ p. refl) (count ∷ bytes) (Some (Minimal (1 + count + 1))) (pair_scanned (items u32) u32 (count ∷ bytes) (1 + count) 1 list default)

pub labels_scanned : (bytes : List ℕ) (count : ℕ) → 0 < length bytes → 1 + get_or bytes 0 0 ≡ count → get_or bytes 0 0 < 128 → count ≤ length bytes - 1 → AreOnes (take count (drop 1 bytes)) → Scans (operands_format kinds.BrTable) bytes (Some (Minimal (1 + count)))
labels_scanned [] count some is lt within all = absurd (omega (arith, some))
labels_scanned (first ∷ bytes) count some is lt within all =
    let next : 1 + first ≡ suc first = omega arith in
    let k : 1 + first + 1 ≡ 1 + count = omega (arith, is) in
    let taken : AreOnes (take (suc first) bytes) = subst (λ (n : ℕ). AreOnes (take n bytes)) (sym is ∙ next) all in
    subst (λ (n : ℕ). Scans (operands_format kinds.BrTable) (first ∷ bytes) (Some (Minimal n))) k (behind_count first bytes lt (omega (arith, within, is)) taken)

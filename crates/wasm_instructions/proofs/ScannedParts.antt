-- Parts of rare instructions, seen at once to be in their minimal encodings.
use Rattle.std.proofs.Common.{◌≡◌, ℕ, zero, suc, ◌+◌, ◌-◌, ◌<◌, ◌≤◌, true, false, eqb, List, [], ◌∷◌, length, get_or, take, drop, drop-drop, length-drop, Option, Some, None, IfSome, refl, sym, ap, subst, ◌∙◌, arith}
use Rattle.std.proofs.Math.Bool.{and-false}
use Rattle.std.proofs.lemmas.Bool.{lt-ltb, le-ltb, lt-leb, ne_eqb}
use Rattle.wasm_codec.specs.Places.{place, byte_at, times_at, raw_at}
use Rattle.wasm_codec.specs.Scanning.{BeginsItems, ReadsShort, Scans}
use Rattle.wasm_codec.specs.declared.rewriter.scan.Scanned.TheVariants.{Minimal}
use Rattle.wasm_codec.specs.formats.Combinators.{Format, a_byte, ◌⊗◌, begins_index, index, items, little_endian, u32, u64}
use Rattle.wasm_codec.proofs.NumberReading.{u32_one}
use Rattle.wasm_codec.proofs.ScanLaws.{made_scanned, pair_scanned}
use Rattle.wasm_types.specs.formats.Types.{heap_type, val_type}
use Rattle.wasm_types.proofs.ScannedValTypes.{begins, no_index}
use Rattle.wasm_instructions.specs.declared.operands.control.BlockType.TheVariants as blocks
use Rattle.wasm_instructions.specs.declared.operands.control.Catch.TheVariants as catches
use Rattle.wasm_instructions.specs.declared.operands.memory.Ordering.TheVariants as orderings
use Rattle.wasm_instructions.specs.declared.table.call.Operands.TheVariants as operands
use Rattle.wasm_instructions.specs.declared.table.opcode.Kind.TheVariants as kinds
use Rattle.wasm_instructions.specs.OperandParts.{cast_part, halves_part, mem_lane_part, try_table_part}
use Rattle.wasm_instructions.specs.formats.Instructions.{cast_of, operands_format}
use Rattle.wasm_instructions.specs.formats.Operands.{block_type, castop, catch_clause, from_halves, in_memory, lanes, mem_arg, ordering, vector}
use Rattle.wasm_instructions.proofs.ScannedCalls.{number_scanned}

-- ---- lists of one type

behind_one : (bytes : List ℕ) (n : ℕ) → Scans val_type bytes (Some (Minimal n)) → Scans (items val_type) (1 ∷ bytes) (Some (Minimal (1 + n)))
unfolding times_at
behind_one bytes n r =
    let all : 1 + n ≡ suc n = omega arith in
    (omega (arith, r.0), (r.1.0 ∷ [], rw (all, u32_one (place true (1 ∷ bytes)) (place true bytes) 1 (omega arith) refl, r.1.1) refl))

pub one_type_scanned : (bytes : List ℕ) (n : ℕ) → 0 < length bytes → get_or bytes 0 0 ≡ 1 → Scans val_type (drop 1 bytes) (Some (Minimal n)) → Scans (items val_type) bytes (Some (Minimal (1 + n)))
one_type_scanned [] n some first r = absurd (omega (arith, some))
one_type_scanned (a ∷ bytes) n some first r = subst (λ (k : ℕ). Scans (items val_type) (k ∷ bytes) (Some (Minimal (1 + n)))) (sym first) (behind_one bytes n r)

-- ---- block types

type_block : (bytes : List ℕ) (n : ℕ) → Scans index bytes (Some (Minimal n)) → Scans block_type bytes (Some (Minimal n))
unfolding block_type byte_at
type_block [] n r = absurd (no_index r.1.0 (place true (drop n [])) r.1.1)
type_block (b ∷ bytes) n r =
    let is = begins b bytes r.1.0 (place true (drop n (b ∷ bytes))) r.1.1 in
    let other : eqb b 0x40 ≡ false = ne_eqb b 0x40 (λ e. let type : begins_index (Some 0x40) ≡ true = subst (λ (k : ℕ). begins_index (Some k) ≡ true) e is in absurd cc) in
    (r.0, (blocks.FunctionType r.1.0, rw (other, is, r.1.1) refl))

pub type_block_found : (bytes : List ℕ) (r : Option ℕ) → IfSome r (λ n. Scans index bytes (Some (Minimal n))) → IfSome r (λ n. Scans block_type bytes (Some (Minimal n)))
type_block_found bytes None h = tt
type_block_found bytes (Some n) h = type_block bytes n h

result_block_scanned : (bytes : List ℕ) (n : ℕ) → 0 < length bytes → 0x40 < get_or bytes 0 0 → get_or bytes 0 0 < 0x80 → Scans val_type bytes (Some (Minimal n)) → Scans block_type bytes (Some (Minimal n))
unfolding block_type byte_at
result_block_scanned [] n some from to r = absurd (omega (arith, some))
result_block_scanned (b ∷ bytes) n some from to r =
    let other : eqb b 0x40 ≡ false = ne_eqb b 0x40 (λ e. omega (arith, from, e)) in
    let none : begins_index (Some b) ≡ false = rw (le-ltb b 64 (omega (arith, from)), lt-leb 128 b to) refl in
    (r.0, (blocks.Result r.1.0, rw (other, none, r.1.1) refl))

pub result_block_found : (bytes : List ℕ) (r : Option ℕ) → 0 < length bytes → 0x40 < get_or bytes 0 0 → get_or bytes 0 0 < 0x80 → IfSome r (λ n. Scans val_type bytes (Some (Minimal n))) → IfSome r (λ n. Scans block_type bytes (Some (Minimal n)))
result_block_found bytes None some from to h = tt
result_block_found bytes (Some n) some from to h = result_block_scanned bytes n some from to h

-- ---- memory arguments

named : (a x : ℕ) (bytes : List ℕ) (n : ℕ) → 64 ≤ a → a < 128 → 0 < x → x < 128 → Scans u64 bytes (Some (Minimal n)) → Scans mem_arg (a ∷ x ∷ bytes) (Some (Minimal (2 + n)))
unfolding mem_arg
named a x bytes n from to some small r =
    let all : 2 + n ≡ suc (suc n) = omega arith in
    let other : eqb x 0 ≡ false = ne_eqb x 0 (λ e. omega (arith, some, e)) in
    (omega (arith, r.0), (in_memory (a - 64) (x, r.1.0), rw (all, u32_one (place true (a ∷ x ∷ bytes)) (place true (x ∷ bytes)) a to refl, le-ltb a 64 from, lt-ltb a 128 to, u32_one (place true (x ∷ bytes)) (place true bytes) x small refl, r.1.1, other, and-false) refl))

pub named_scanned : (bytes : List ℕ) (n : ℕ) → 1 < length bytes → 64 ≤ get_or bytes 0 0 → get_or bytes 0 0 < 128 → 0 < get_or bytes 1 0 → get_or bytes 1 0 < 128 → Scans u64 (drop 2 bytes) (Some (Minimal n)) → Scans mem_arg bytes (Some (Minimal (2 + n)))
named_scanned [] n some from to is small r = absurd (omega (arith, some))
named_scanned (a ∷ []) n some from to is small r = absurd (omega (arith, some))
named_scanned (a ∷ x ∷ bytes) n some from to is small r = named a x bytes n from to is small r

-- ---- clauses of try_table

pair_clause : (b : ℕ) (bytes : List ℕ) (m n : ℕ) → b < 2 → Scans u32 bytes (Some (Minimal m)) → Scans u32 (drop m bytes) (Some (Minimal n)) → Scans catch_clause (b ∷ bytes) (Some (Minimal (1 + m + n)))
unfolding catch_clause byte_at
pair_clause zero bytes m n lt r s =
    let all : 1 + m + n ≡ suc (m + n) = omega arith in
    let left : drop n (drop m bytes) ≡ drop (m + n) bytes = drop-drop n m bytes in
    (omega (arith, r.0, s.0, length-drop m bytes), (catches.One r.1.0 s.1.0, rw (r.1.1, s.1.1, all, left) refl))
pair_clause (suc zero) bytes m n lt r s =
    let all : 1 + m + n ≡ suc (m + n) = omega arith in
    let left : drop n (drop m bytes) ≡ drop (m + n) bytes = drop-drop n m bytes in
    (omega (arith, r.0, s.0, length-drop m bytes), (catches.OneRef r.1.0 s.1.0, rw (r.1.1, s.1.1, all, left) refl))
pair_clause (suc (suc b)) bytes m n lt r s = absurd (omega (arith, lt))

all_clause : (b : ℕ) (bytes : List ℕ) (m : ℕ) → 2 ≤ b → b < 4 → Scans u32 bytes (Some (Minimal m)) → Scans catch_clause (b ∷ bytes) (Some (Minimal (1 + m)))
unfolding catch_clause byte_at
all_clause zero bytes m le lt r = absurd (omega (arith, le))
all_clause (suc zero) bytes m le lt r = absurd (omega (arith, le))
all_clause (suc (suc zero)) bytes m le lt r =
    let all : 1 + m ≡ suc m = omega arith in
    (omega (arith, r.0), (catches.All r.1.0, rw (all, r.1.1) refl))
all_clause (suc (suc (suc zero))) bytes m le lt r =
    let all : 1 + m ≡ suc m = omega arith in
    (omega (arith, r.0), (catches.AllRef r.1.0, rw (all, r.1.1) refl))
all_clause (suc (suc (suc (suc b)))) bytes m le lt r = absurd (omega (arith, lt))

pub pair_clause_scanned : (bytes : List ℕ) (m n : ℕ) → 0 < length bytes → get_or bytes 0 0 < 2 → Scans u32 (drop 1 bytes) (Some (Minimal m)) → Scans u32 (drop (1 + m) bytes) (Some (Minimal n)) → Scans catch_clause bytes (Some (Minimal (1 + m + n)))
pair_clause_scanned [] m n some lt r s = absurd (omega (arith, some))
pair_clause_scanned (b ∷ bytes) m n some lt r s =
    let next : 1 + m ≡ suc m = omega arith in
    pair_clause b bytes m n lt r (rw next at s)

pub all_clause_scanned : (bytes : List ℕ) (m : ℕ) → 0 < length bytes → 2 ≤ get_or bytes 0 0 → get_or bytes 0 0 < 4 → Scans u32 (drop 1 bytes) (Some (Minimal m)) → Scans catch_clause bytes (Some (Minimal (1 + m)))
all_clause_scanned [] m some le lt r = absurd (omega (arith, some))
all_clause_scanned (b ∷ bytes) m some le lt r = all_clause b bytes m le lt r

-- ---- lists

run_times : {V : Type 0} (F : Format V) (values : List V) (bytes left : List ℕ) → ReadsShort F values bytes left → times_at F.at (length values) (place true bytes) ≡ Some (values, place true left)
unfolding times_at
run_times F [] bytes left e = ap (λ (t : List ℕ). Some ([], place true t)) e
run_times F (v ∷ values) bytes left (next, (read, rest)) = rw (read, run_times F values next left rest) refl

behind_items : {V : Type 0} (F : Format V) (count : ℕ) (bytes : List ℕ) (size : ℕ) → count < 128 → BeginsItems F bytes count size → Scans (items F) (count ∷ bytes) (Some (Minimal (1 + size)))
behind_items F count bytes size lt run =
    let all : 1 + size ≡ suc size = omega arith in
    let times = subst (λ (n : ℕ). times_at F.at n (place true bytes) ≡ Some (run.values, place true (drop size bytes))) run.counted (run_times F run.values bytes (drop size bytes) run.reads) in
    (omega (arith, run.within), (run.values, rw (all, u32_one (place true (count ∷ bytes)) (place true bytes) count lt refl, times) refl))

pub items_scanned : {V : Type 0} (F : Format V) (bytes : List ℕ) (count size : ℕ) → 0 < length bytes → get_or bytes 0 0 ≡ count → count < 128 → BeginsItems F (drop 1 bytes) count size → Scans (items F) bytes (Some (Minimal (1 + size)))
items_scanned F [] count size some is lt run = absurd (omega (arith, some))
items_scanned F (b ∷ bytes) count size some is lt run = subst (λ (n : ℕ). Scans (items F) (n ∷ bytes) (Some (Minimal (1 + size)))) (sym is) (behind_items F count bytes size lt run)

-- ---- parts of a fixed length

pub vector_scanned : (bytes : List ℕ) → 16 ≤ length bytes → Scans vector bytes (Some (Minimal 16))
unfolding vector
vector_scanned bytes le = made_scanned from_halves halves_part (little_endian 8 ⊗ little_endian 8) (λ p. refl) bytes (Some (Minimal 16)) (pair_scanned (little_endian 8) (little_endian 8) bytes 8 8 (number_scanned 8 bytes (omega (arith, le))) (number_scanned 8 (drop 8 bytes) (omega (arith, le, length-drop 8 bytes))))

pub lanes_scanned : (bytes : List ℕ) → 16 ≤ length bytes → Scans lanes bytes (Some (Minimal 16))
unfolding lanes raw_at
lanes_scanned bytes le = (le, (take 16 bytes, rw (le-ltb (length bytes) 16 le) refl))

pub byte_scanned : (bytes : List ℕ) → 1 ≤ length bytes → Scans a_byte bytes (Some (Minimal 1))
unfolding byte_at
byte_scanned [] some = absurd (omega (arith, some))
byte_scanned (b ∷ bytes) some = (some, (b, refl))

pub ordering_scanned : (bytes : List ℕ) → 0 < length bytes → get_or bytes 0 0 < 2 → Scans ordering bytes (Some (Minimal 1))
unfolding ordering byte_at
ordering_scanned [] some lt = absurd (omega (arith, some))
ordering_scanned (zero ∷ bytes) some lt = (omega arith, (orderings.SeqCst, refl))
ordering_scanned (suc zero ∷ bytes) some lt = (omega arith, (orderings.AcqRel, refl))
ordering_scanned (suc (suc b) ∷ bytes) some lt = absurd (omega (arith, lt))

pub castop_scanned : (bytes : List ℕ) → 0 < length bytes → get_or bytes 0 0 < 4 → Scans castop bytes (Some (Minimal 1))
unfolding castop byte_at
castop_scanned [] some lt = absurd (omega (arith, some))
castop_scanned (zero ∷ bytes) some lt = (omega arith, ((false, false), refl))
castop_scanned (suc zero ∷ bytes) some lt = (omega arith, ((true, false), refl))
castop_scanned (suc (suc zero) ∷ bytes) some lt = (omega arith, ((false, true), refl))
castop_scanned (suc (suc (suc zero)) ∷ bytes) some lt = (omega arith, ((true, true), refl))
castop_scanned (suc (suc (suc (suc b))) ∷ bytes) some lt = absurd (omega (arith, lt))

-- ---- operands of several parts

pub try_scanned : (bytes : List ℕ) (m n : ℕ) → Scans block_type bytes (Some (Minimal m)) → Scans (items catch_clause) (drop m bytes) (Some (Minimal n)) → Scans (operands_format kinds.TryTable) bytes (Some (Minimal (m + n)))
unfolding operands_format
try_scanned bytes m n a b = made_scanned (λ p. operands.TryTable p.0 p.1) try_table_part (block_type ⊗ items catch_clause) (λ p. refl) bytes (Some (Minimal (m + n))) (pair_scanned block_type (items catch_clause) bytes m n a b)

pub mem_lane_scanned : (bytes : List ℕ) (m n : ℕ) → Scans mem_arg bytes (Some (Minimal m)) → Scans a_byte (drop m bytes) (Some (Minimal n)) → Scans (operands_format kinds.MemLane) bytes (Some (Minimal (m + n)))
unfolding operands_format
mem_lane_scanned bytes m n a b = made_scanned (λ p. operands.MemLane p.0 p.1) mem_lane_part (mem_arg ⊗ a_byte) (λ p. refl) bytes (Some (Minimal (m + n))) (pair_scanned mem_arg a_byte bytes m n a b)

pub cast_scanned : (bytes : List ℕ) (k l m n : ℕ) → Scans castop bytes (Some (Minimal k)) → Scans u32 (drop k bytes) (Some (Minimal l)) → Scans heap_type (drop (k + l) bytes) (Some (Minimal m)) → Scans heap_type (drop (k + l + m) bytes) (Some (Minimal n)) → Scans (operands_format kinds.Cast) bytes (Some (Minimal (k + l + m + n)))
unfolding operands_format
cast_scanned bytes k l m n flags label before after =
    let at_before : drop (k + l) bytes ≡ drop l (drop k bytes) = sym (drop-drop l k bytes) in
    let at_after : drop (k + l + m) bytes ≡ drop m (drop l (drop k bytes)) = sym (drop-drop m (k + l) bytes) ∙ ap (drop m) at_before in
    let all : k + (l + (m + n)) ≡ k + l + m + n = omega arith in
    let types = pair_scanned heap_type heap_type (drop l (drop k bytes)) m n (rw at_before at before) (rw at_after at after) in
    let rest = pair_scanned u32 (heap_type ⊗ heap_type) (drop k bytes) l (m + n) label types in
    let parts = pair_scanned castop (u32 ⊗ heap_type ⊗ heap_type) bytes k (l + (m + n)) flags rest in
    subst (λ (i : ℕ). Scans (operands_format kinds.Cast) bytes (Some (Minimal i))) all (made_scanned cast_of cast_part (castop ⊗ u32 ⊗ heap_type ⊗ heap_type) (λ p. refl) bytes (Some (Minimal (k + (l + (m + n))))) parts)

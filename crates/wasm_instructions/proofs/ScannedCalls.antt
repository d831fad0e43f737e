-- Instructions that are seen at once to be in their minimal encodings.
use Rattle.std.proofs.Common.{◌≡◌, ℕ, zero, suc, ◌+◌, ◌-◌, ◌<◌, ◌≤◌, Bool, true, false, List, [], ◌∷◌, ◌++◌, length, get_or, take, take_all, drop, length-drop, not, ◌&&◌, Option, Some, refl, sym, ap, subst, ◌∙◌, arith}
use Rattle.std.proofs.Math.Bool.{and-true}
use Rattle.std.proofs.lemmas.Bool.{lt-ltb, ne_eqb}
use Rattle.wasm_codec.specs.Places.{place, byte_at}
use Rattle.wasm_codec.specs.Rewriter.{cut}
use Rattle.wasm_codec.specs.Scanning.{IsWithin, Scans, behind_byte}
use Rattle.wasm_codec.specs.declared.rewriter.scan.Scanned.{Scanned}
use Rattle.wasm_codec.specs.declared.rewriter.scan.Scanned.TheVariants as scanned
use Rattle.wasm_codec.specs.Leb128.{unsigned_leb128}
use Rattle.wasm_codec.proofs.ScanLaws.{made_scanned}
use Rattle.wasm_instructions.proofs.CallRewriting.{of_kind}
use Rattle.wasm_instructions.proofs.OperandFormatLaws.{one_digit}
use Rattle.wasm_codec.specs.formats.Combinators.{Format, u32, u64, little_endian, with_low}
use Rattle.wasm_codec.proofs.NumberReading.{u32_one}
use Rattle.wasm_instructions.specs.declared.table.call.Operands.TheVariants as operands
use Rattle.wasm_instructions.specs.declared.table.opcode.Kind.{Kind}
use Rattle.wasm_instructions.specs.declared.table.opcode.Kind.TheVariants as kinds
use Rattle.wasm_types.specs.declared.types.value.ValType.TheVariants as values
use Rattle.wasm_types.specs.formats.Types.{val_type}
use Rattle.wasm_instructions.specs.declared.operands.control.BlockType.TheVariants as blocks
use Rattle.wasm_instructions.specs.declared.operands.memory.MemArg.{MemArg}
use Rattle.wasm_instructions.specs.declared.table.opcode.Prefix.TheVariants as prefixes
use Rattle.wasm_instructions.specs.formats.Opcodes.{opcode_kind, ranges}
use Rattle.wasm_instructions.proofs.OpcodeLaws.{in_table}
use Rattle.wasm_instructions.specs.formats.Instructions.{call}
use Rattle.wasm_instructions.specs.formats.Opcodes.{without_prefix}
use Rattle.wasm_instructions.specs.formats.Instructions.{opcode, operands_format, instruction}
use Rattle.wasm_instructions.specs.OperandParts.{index_part}
use Rattle.wasm_instructions.specs.formats.Operands.{block_type, in_memory, mem_arg}

-- the operands of the most frequent kinds
pub none_scanned : (bytes : List ℕ) → Scans (operands_format kinds.None) bytes (Some (scanned.Minimal 0))
unfolding operands_format
none_scanned bytes = (omega arith, (operands.None, refl))

pub index_scanned : (bytes : List ℕ) (r : Option Scanned) → Scans u32 bytes r → Scans (operands_format kinds.Index) bytes r
unfolding operands_format
index_scanned bytes r s = made_scanned operands.Index index_part u32 (λ a. refl) bytes r s

number_read : (count : ℕ) (bytes : List ℕ) → count ≤ length bytes → (n : ℕ) × ((little_endian count).at (place true bytes) ≡ Some (n, place true (drop count bytes)))
unfolding little_endian byte_at
number_read zero bytes le = (0, refl)
number_read (suc more) [] le = absurd (omega arith)
number_read (suc more) (b ∷ bytes) le =
    let n = number_read more bytes (omega arith) in
    (with_low (b, n.0), rw n.1 refl)

pub number_scanned : (count : ℕ) (bytes : List ℕ) → count ≤ length bytes → Scans (little_endian count) bytes (Some (scanned.Minimal count))
number_scanned count bytes le = (le, number_read count bytes le)

pub one_byte : (b : ℕ) (bytes : List ℕ) (s : Bool) → b < 0xfb → opcode.at (place s (b ∷ bytes)) ≡ Some (without_prefix b, place s bytes)
unfolding opcode byte_at
one_byte b bytes s lt =
    rw (ne_eqb b 0xfb (λ e. omega (arith, e)), ne_eqb b 0xfc (λ e. omega (arith, e)), ne_eqb b 0xfd (λ e. omega (arith, e)), ne_eqb b 0xfe (λ e. omega (arith, e))) refl

-- the bytes after the first
pub behind_first : {V : Type 0} (F : Format V) (bytes : List ℕ) (s : Scanned) → Scans F (take (length bytes - 1) (drop 1 bytes)) (Some s) → Scans F (drop 1 bytes) (Some s)
behind_first F bytes s r = subst (λ (l : List ℕ). Scans F l (Some s)) (take_all (length bytes - 1) (drop 1 bytes) (omega (arith, length-drop 1 bytes))) r

pub is_within : (s : Scanned) (n most : ℕ) → n ≤ most → IsWithin s n → IsWithin s most
is_within (scanned.Minimal count) n most le w = omega (arith, le, w)
is_within (scanned.Padded signed start more) n most le w = (w.0, omega (arith, le, w.1))

-- if `F` reads a value from the bytes, `G` reads one from the byte `b` and them, and leaves the same bytes
abbrev Behind : {V W : Type 0} (F : Format V) (G : Format W) (b : ℕ) (bytes : List ℕ) → Type 0
Behind {V} {W} F G b bytes = (v : V) (s : Bool) (left : List ℕ) → F.at (place true bytes) ≡ Some (v, place s left) → (w : W) × ((G.at (place true (b ∷ bytes)) ≡ Some (w, place s left)) × (G.bytes w ≡ b ∷ F.bytes v))

cut_behind : (b kept : ℕ) (bytes : List ℕ) → 0 < kept → cut (1 + kept) (b ∷ bytes) ≡ b ∷ cut kept bytes
cut_behind b zero bytes some = absurd (omega arith)
cut_behind b (suc kept) bytes some =
    let n : 1 + suc kept ≡ suc (suc kept) = omega arith in
    rw n refl

behind : {V W : Type 0} (F : Format V) (G : Format W) (b : ℕ) (bytes : List ℕ) → Behind F G b bytes → (s : Scanned) → Scans F bytes (Some s) → Scans G (b ∷ bytes) (Some (behind_byte s))
behind F G b bytes reads (scanned.Minimal count) (le, x) =
    let n : 1 + count ≡ suc count = omega arith in
    let w = reads x.0 true (drop count bytes) x.1 in
    (omega (arith, le), (w.0, rw n w.1.0))
behind F G b bytes reads (scanned.Padded signed start more) (le, told) =
    let n : 1 + start ≡ suc start = omega arith in
    let end : 1 + start + more + 1 ≡ suc (start + more + 1) = omega arith in (
      (le.0, omega (arith, le.1)),
      λ kept k.
          let p = told kept (rw n at k) in
          let w = reads p.value false (drop (start + more + 1) bytes) p.read in
          let all : 1 + start + kept ≡ 1 + (start + kept) = omega arith in
          record { value = w.0; read = rw end w.1.0; minimal = ap (λ (i : ℕ). cut i (b ∷ bytes)) all ∙ cut_behind b (start + kept) bytes (omega (arith, k.some)) ∙ ap (λ (t : List ℕ). b ∷ t) p.minimal ∙ sym w.1.1 },
    )

-- a byte that is an opcode is no prefix
pub no_prefix : (b : ℕ) (k : Kind) → opcode_kind (without_prefix b) ≡ Some k → b < 0xfb
unfolding ranges
no_prefix b k is = in_table (ranges prefixes.None) 0xfb b k refl is

pub call_scanned : (bytes : List ℕ) (k : Kind) (s : Scanned) → 0 < length bytes → opcode_kind (without_prefix (get_or bytes 0 0)) ≡ Some k → Scans (operands_format k) (drop 1 bytes) (Some s) → Scans instruction bytes (Some (behind_byte s))
unfolding instruction opcode
call_scanned [] k s some is r = absurd (omega arith)
call_scanned (first ∷ bytes) k s some is r = behind (operands_format k) instruction first bytes (λ v t left e.
    (call (without_prefix first) v, (rw (one_byte first bytes true (no_prefix first k is), is, e) refl, ap (λ (k : Kind). first ∷ (operands_format k).bytes v) (of_kind k (place true bytes) v (place t left) e)))) s r

-- the opcodes from local.get to table.set take an index
variable_kind : (i : ℕ) → i < 7 → opcode_kind (without_prefix (0x20 + i)) ≡ Some kinds.Index
unfolding ranges
variable_kind zero lt = refl
variable_kind (suc zero) lt = refl
variable_kind (suc (suc zero)) lt = refl
variable_kind (suc (suc (suc zero))) lt = refl
variable_kind (suc (suc (suc (suc zero)))) lt = refl
variable_kind (suc (suc (suc (suc (suc zero))))) lt = refl
variable_kind (suc (suc (suc (suc (suc (suc zero)))))) lt = refl
variable_kind (suc (suc (suc (suc (suc (suc (suc i))))))) lt = absurd (omega arith)

pub variable_scanned : (bytes : List ℕ) (count : ℕ) → 0 < length bytes → 0x20 ≤ get_or bytes 0 0 → get_or bytes 0 0 ≤ 0x26 → Scans u32 (take (length bytes - 1) (drop 1 bytes)) (Some (scanned.Minimal count)) → Scans instruction bytes (Some (scanned.Minimal (1 + count)))
variable_scanned bytes count some from to r =
    let b = get_or bytes 0 0 in
    let at : 0x20 + (b - 0x20) ≡ b = omega (arith, from) in
    let kind = subst (λ (n : ℕ). opcode_kind (without_prefix n) ≡ Some kinds.Index) at (variable_kind (b - 0x20) (omega (arith, to, from))) in
    call_scanned bytes kinds.Index (scanned.Minimal count) some kind (index_scanned (drop 1 bytes) (Some (scanned.Minimal count)) (behind_first u32 bytes (scanned.Minimal count) r))

mem_arg_there : (align : ℕ) (bytes : List ℕ) (offset : ℕ) (s : Bool) (left : List ℕ) → align < 64 → u64.at (place true bytes) ≡ Some (offset, place s left) → (w : MemArg) × ((mem_arg.at (place true (align ∷ bytes)) ≡ Some (w, place s left)) × (mem_arg.bytes w ≡ align ∷ u64.bytes offset))
unfolding mem_arg
mem_arg_there align bytes offset s left lt e = (
  in_memory align (0, offset),
  (
    rw (u32_one (place true (align ∷ bytes)) (place true bytes) align (omega arith) refl, lt-ltb align 64 lt, e) (ap (λ (t : Bool). Some (in_memory align (0, offset), place (s && not (not t && true)) left)) (lt-ltb align 64 lt) ∙ ap (λ (t : Bool). Some (in_memory align (0, offset), place t left)) (and-true s)),
    ap (λ (t : List ℕ). t ++ unsigned_leb128 offset) (one_digit align (omega arith)),
  ),
)

pub mem_arg_scanned : (bytes : List ℕ) (s : Scanned) → 0 < length bytes → get_or bytes 0 0 < 64 → Scans u64 (drop 1 bytes) (Some s) → Scans mem_arg bytes (Some (behind_byte s))
mem_arg_scanned [] s some lt r = absurd (omega arith)
mem_arg_scanned (align ∷ bytes) s some lt r = behind u64 mem_arg align bytes (λ offset t left e. mem_arg_there align bytes offset t left lt e) s r

-- bytes that are a block type each
pub empty_scanned : (bytes : List ℕ) → Scans block_type (0x40 ∷ bytes) (Some (scanned.Minimal 1))
unfolding block_type byte_at
empty_scanned bytes = (omega arith, (blocks.Empty, refl))

pub f64_scanned : (bytes : List ℕ) → Scans block_type (0x7c ∷ bytes) (Some (scanned.Minimal 1))
unfolding block_type val_type byte_at
f64_scanned bytes = (omega arith, (blocks.Result values.F64, refl))

pub f32_scanned : (bytes : List ℕ) → Scans block_type (0x7d ∷ bytes) (Some (scanned.Minimal 1))
unfolding block_type val_type byte_at
f32_scanned bytes = (omega arith, (blocks.Result values.F32, refl))

pub i64_scanned : (bytes : List ℕ) → Scans block_type (0x7e ∷ bytes) (Some (scanned.Minimal 1))
unfolding block_type val_type byte_at
i64_scanned bytes = (omega arith, (blocks.Result values.I64, refl))

pub i32_scanned : (bytes : List ℕ) → Scans block_type (0x7f ∷ bytes) (Some (scanned.Minimal 1))
unfolding block_type val_type byte_at
i32_scanned bytes = (omega arith, (blocks.Result values.I32, refl))

-- what holds of bytes that begin with one holds of those whose first is that
pub first_is : (P : List ℕ → Type 0) (b : ℕ) (bytes : List ℕ) → ((more : List ℕ) → P (b ∷ more)) → 0 < length bytes → get_or bytes 0 0 ≡ b → P bytes
first_is P b [] holds some e = absurd (omega arith)
first_is P b (c ∷ bytes) holds some e = subst (λ (k : ℕ). P (k ∷ bytes)) (sym e) (holds bytes)

-- Names, expressions and types of imports that are seen at once to be in their minimal encodings.
use Rattle.std.proofs.Common.{◌≡◌, ℕ, zero, suc, ◌+◌, ◌-◌, ◌<◌, ◌≤◌, true, false, List, [], ◌∷◌, length, get_or, take, drop, drop-drop, length-drop, Some, refl, sym, subst, ◌∙◌, arith, lit≤}
use Rattle.std.specs.Str.{IsAscii}
use Rattle.std.proofs.lemmas.Bool.{ne_eqb}
use Rattle.std.proofs.lemmas.Str.{IsUtf8-from_ascii}
use Rattle.wasm_codec.specs.Places.{place, byte_at}
use Rattle.wasm_codec.specs.Scanning.{Scans}
use Rattle.wasm_codec.specs.declared.rewriter.scan.Scanned.TheVariants.{Minimal}
use Rattle.wasm_codec.specs.formats.Combinators.{u32, ◌⊗◌}
use Rattle.wasm_codec.proofs.NumberReading.{u32_one}
use Rattle.wasm_codec.proofs.ScanLaws.{get_dropped, made_scanned, pair_scanned}
use Rattle.wasm_types.specs.formats.Types.{val_type}
use Rattle.wasm_types.proofs.ScannedTypes.{IsWhole}
use Rattle.wasm_instructions.specs.formats.Instructions.{opcode, operands_format, instruction}
use Rattle.wasm_instructions.specs.formats.Opcodes.{ranges}
use Rattle.wasm_instructions.proofs.ScannedPrefixed.{AreOnes}
use Rattle.wasm_externals.specs.declared.types.EntityType.TheVariants as entities
use Rattle.wasm_externals.specs.formats.PartCombinators.{goes_on}
use Rattle.wasm_externals.specs.formats.Names.{name}
use Rattle.wasm_externals.specs.formats.Expressions.{nested_by, end_call, expr}
use Rattle.wasm_externals.specs.formats.Externals.{global_flags, global_type_of, global_type, entity_type}
use Rattle.wasm_externals.proofs.NameLaws.{name_read}
use Rattle.wasm_externals.proofs.ExpressionLaws.{by_opcode, none_gone, gone_on, gone_ends, first_tells}

-- ---- names

ones_ascii : (bytes : List ℕ) → AreOnes bytes → IsAscii bytes
ones_ascii [] all zero = lit≤ tt
ones_ascii [] all (suc i) = lit≤ tt
ones_ascii (b ∷ bytes) all zero = all.0
ones_ascii (b ∷ bytes) all (suc i) = ones_ascii bytes all.1 i

name_behind : (count : ℕ) (bytes : List ℕ) → count < 128 → count ≤ length bytes → AreOnes (take count bytes) → Scans name (count ∷ bytes) (Some (Minimal (1 + count)))
name_behind count bytes lt within all =
    let next : 1 + count ≡ suc count = omega arith in
    let size = u32_one (place true (count ∷ bytes)) (place true bytes) count lt refl in
    (omega (arith, within), (take count bytes, rw next (name_read (place true (count ∷ bytes)) (place true bytes) (place true (drop count bytes)) count (take count bytes) size within refl refl (IsUtf8-from_ascii (take count bytes) (ones_ascii (take count bytes) all)))))

pub name_scanned : (bytes : List ℕ) (count : ℕ) → 0 < length bytes → get_or bytes 0 0 ≡ count → count < 128 → count ≤ length bytes - 1 → AreOnes (take count (drop 1 bytes)) → Scans name bytes (Some (Minimal (1 + count)))
name_scanned [] count some is lt within all = absurd (omega (arith, some))
name_scanned (first ∷ bytes) count some is lt within all =
    subst (λ (n : ℕ). Scans name (n ∷ bytes) (Some (Minimal (1 + count)))) (sym is) (name_behind count bytes lt (omega (arith, within)) all)

-- ---- expressions

-- such an instruction opens and closes no block
flat : (b : ℕ) → 0x20 ≤ b → nested_by 0 b ≡ goes_on 0
flat b le = rw (ne_eqb b 0x02 (λ e. omega (arith, e, le)), ne_eqb b 0x03 (λ e. omega (arith, e, le)), ne_eqb b 0x04 (λ e. omega (arith, e, le)), ne_eqb b 0x06 (λ e. omega (arith, e, le)), ne_eqb b 0x1f (λ e. omega (arith, e, le)), ne_eqb b 0x0b (λ e. omega (arith, e, le)), ne_eqb b 0x18 (λ e. omega (arith, e, le))) refl

end_read : (more : List ℕ) → instruction.at (place true (0x0b ∷ more)) ≡ Some (end_call, place true more)
unfolding instruction opcode operands_format ranges byte_at
end_read more = refl

end_found : (bytes : List ℕ) → 0 < length bytes → get_or bytes 0 0 ≡ 0x0b → instruction.at (place true bytes) ≡ Some (end_call, place true (drop 1 bytes))
end_found [] some is = absurd (omega (arith, some))
end_found (b ∷ bytes) some is = rw is (end_read bytes)

-- no such instruction is an `end`
some_bytes : (bytes : List ℕ) (count : ℕ) → 0x20 ≤ get_or bytes 0 0 → get_or bytes count 0 ≡ 0x0b → 0 < count
some_bytes bytes zero le is = absurd (omega (arith, le, is))
some_bytes bytes (suc count) le is = omega arith

first_byte : (bytes : List ℕ) → 0 < length bytes → byte_at (place true bytes) ≡ Some (get_or bytes 0 0, place true (drop 1 bytes))
unfolding byte_at
first_byte [] some = absurd (omega (arith, some))
first_byte (b ∷ bytes) some = refl

pub expr_scanned : (bytes : List ℕ) (count : ℕ) → 0x20 ≤ get_or bytes 0 0 → count < length bytes → get_or bytes count 0 ≡ 0x0b → Scans instruction bytes (Some (Minimal count)) → Scans expr bytes (Some (Minimal (count + 1)))
unfolding expr
expr_scanned bytes count le within is r =
    let p = place true bytes in
    let here = place true (drop count bytes) in
    let some = some_bytes bytes count le is in
    let v = r.1.0 in
    let total = expr.at p in
    let first = first_byte bytes (omega (arith, within)) in
    let move = first_tells 0 (get_or bytes 0 0) p (place true (drop 1 bytes)) v here first r.1.1 ∙ flat (get_or bytes 0 0) le in
    let begun = none_gone by_opcode instruction.at total (length bytes) 0 p refl in
    let one = gone_on by_opcode instruction.at total (length bytes) 0 0 0 p here [] v (omega (arith, within)) r.1.1 move begun in
    let end = end_found (drop count bytes) (omega (arith, within, length-drop count bytes)) (get_dropped count bytes ∙ is) in
    let read = gone_ends by_opcode instruction.at total (length bytes) 1 0 here (place true (drop 1 (drop count bytes))) (v ∷ []) end_call (omega (arith, within, some)) end refl one in
    let left : drop 1 (drop count bytes) ≡ drop (count + 1) bytes = drop-drop 1 count bytes in
    (omega (arith, within), (v ∷ [], rw left at read))

-- ---- types of imports

flags_scanned : (b : ℕ) (more : List ℕ) → b < 4 → Scans global_flags (b ∷ more) (Some (Minimal 1))
unfolding global_flags byte_at
flags_scanned zero more lt = (omega arith, ((false, false), refl))
flags_scanned (suc zero) more lt = (omega arith, ((true, false), refl))
flags_scanned (suc (suc zero)) more lt = (omega arith, ((false, true), refl))
flags_scanned (suc (suc (suc zero))) more lt = (omega arith, ((true, true), refl))
flags_scanned (suc (suc (suc (suc b)))) more lt = absurd (omega (arith, lt))

pub global_type_scanned : (bytes : List ℕ) → 2 ≤ length bytes → IsWhole (get_or bytes 0 0) → get_or bytes 1 0 < 4 → Scans global_type bytes (Some (Minimal 2))
unfolding global_type
global_type_scanned [] some whole lt = absurd (omega (arith, some))
global_type_scanned (a ∷ []) some whole lt = absurd (omega (arith, some))
global_type_scanned (a ∷ b ∷ bytes) some whole lt =
    made_scanned global_type_of (λ g. Some (g.val_type, (g.mutable, g.shared))) (val_type ⊗ global_flags) (λ a. refl) (a ∷ b ∷ bytes) (Some (Minimal 2)) (pair_scanned val_type global_flags (a ∷ b ∷ bytes) 1 1 (whole (b ∷ bytes)) (flags_scanned b bytes lt))

function_behind : (bytes : List ℕ) (n : ℕ) → Scans u32 bytes (Some (Minimal n)) → Scans entity_type (0x00 ∷ bytes) (Some (Minimal (1 + n)))
unfolding entity_type byte_at
function_behind bytes n r =
    let next : 1 + n ≡ suc n = omega arith in
    (omega (arith, r.0), (entities.Function r.1.0, rw (next, r.1.1) refl))

global_behind : (bytes : List ℕ) (n : ℕ) → Scans global_type bytes (Some (Minimal n)) → Scans entity_type (0x03 ∷ bytes) (Some (Minimal (1 + n)))
unfolding entity_type byte_at
global_behind bytes n r =
    let next : 1 + n ≡ suc n = omega arith in
    (omega (arith, r.0), (entities.Global r.1.0, rw (next, r.1.1) refl))

pub function_scanned : (bytes : List ℕ) (n : ℕ) → 0 < length bytes → get_or bytes 0 0 ≡ 0x00 → Scans u32 (drop 1 bytes) (Some (Minimal n)) → Scans entity_type bytes (Some (Minimal (1 + n)))
function_scanned [] n some is r = absurd (omega (arith, some))
function_scanned (b ∷ bytes) n some is r = subst (λ (k : ℕ). Scans entity_type (k ∷ bytes) (Some (Minimal (1 + n)))) (sym is) (function_behind bytes n r)

pub global_scanned : (bytes : List ℕ) (n : ℕ) → 0 < length bytes → get_or bytes 0 0 ≡ 0x03 → Scans global_type (drop 1 bytes) (Some (Minimal n)) → Scans entity_type bytes (Some (Minimal (1 + n)))
global_scanned [] n some is r = absurd (omega (arith, some))
global_scanned (b ∷ bytes) n some is r = subst (λ (k : ℕ). Scans entity_type (k ∷ bytes) (Some (Minimal (1 + n)))) (sym is) (global_behind bytes n r)

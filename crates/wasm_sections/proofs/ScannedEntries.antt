-- Entries of sections that are seen at once to be in their minimal encodings.
use Rattle.std.proofs.Common.{◌≡◌, ℕ, zero, suc, ◌+◌, ◌-◌, ◌<◌, ◌≤◌, true, List, [], ◌∷◌, length, get_or, take, drop, drop-drop, Some, refl, sym, subst, arith}
use Rattle.std.proofs.lemmas.Bool.{le-ltb}
use Rattle.wasm_codec.specs.Places.{place, byte_at}
use Rattle.wasm_codec.specs.Scanning.{Scans}
use Rattle.wasm_codec.specs.declared.rewriter.scan.Scanned.TheVariants.{Minimal}
use Rattle.wasm_codec.specs.formats.Bodies.{byte_list}
use Rattle.wasm_codec.specs.formats.Combinators.{Format, u32, ◌⊗◌}
use Rattle.wasm_codec.proofs.NumberReading.{u32_one}
use Rattle.wasm_codec.proofs.ScanLaws.{made_scanned, pair_scanned}
use Rattle.wasm_externals.specs.declared.types.ExportKind.TheVariants as kinds
use Rattle.wasm_externals.specs.formats.Names.{name}
use Rattle.wasm_externals.specs.formats.Expressions.{expr}
use Rattle.wasm_externals.specs.formats.Externals.{export_kind, global_type, entity_type}
use Rattle.wasm_sections.specs.formats.Entries.{export_of, export_entry, import_of, import_entry, global_of, global_entry}
use Rattle.wasm_sections.specs.formats.Segments.{active_data, passive_data, data_segment}

-- the bytes from a start on, found from an earlier one
behind_both : {V : Type 0} (F : Format V) (bytes : List ℕ) (m n k : ℕ) → Scans F (drop (m + n) bytes) (Some (Minimal k)) → Scans F (drop n (drop m bytes)) (Some (Minimal k))
behind_both F bytes m n k r = subst (λ (l : List ℕ). Scans F l (Some (Minimal k))) (sym (drop-drop n m bytes)) r

-- ---- imports, exports and globals

pub import_scanned : (bytes : List ℕ) (first field ty : ℕ) → Scans name bytes (Some (Minimal first)) → Scans name (drop first bytes) (Some (Minimal field)) → Scans entity_type (drop (first + field) bytes) (Some (Minimal ty)) → Scans import_entry bytes (Some (Minimal (first + field + ty)))
unfolding import_entry
import_scanned bytes first field ty m f t =
    let all : first + (field + ty) ≡ first + field + ty = omega arith in
    let rest = pair_scanned name entity_type (drop first bytes) field ty f (behind_both entity_type bytes first field ty t) in
    let whole = pair_scanned name (name ⊗ entity_type) bytes first (field + ty) m rest in
    let made_of = made_scanned import_of (λ i. Some (i.module_name, (i.field, i.ty))) (name ⊗ (name ⊗ entity_type)) (λ p. refl) bytes (Some (Minimal (first + (field + ty)))) whole in
    subst (λ (n : ℕ). Scans import_entry bytes (Some (Minimal n))) all made_of

kind_behind : (b : ℕ) (more : List ℕ) → b < 5 → Scans export_kind (b ∷ more) (Some (Minimal 1))
unfolding export_kind byte_at
kind_behind zero more lt = (omega arith, (kinds.Func, refl))
kind_behind (suc zero) more lt = (omega arith, (kinds.Table, refl))
kind_behind (suc (suc zero)) more lt = (omega arith, (kinds.Memory, refl))
kind_behind (suc (suc (suc zero))) more lt = (omega arith, (kinds.Global, refl))
kind_behind (suc (suc (suc (suc zero)))) more lt = (omega arith, (kinds.Tag, refl))
kind_behind (suc (suc (suc (suc (suc b))))) more lt = absurd (omega (arith, lt))

kind_found : (start : ℕ) (bytes : List ℕ) → start < length bytes → get_or bytes start 0 < 5 → Scans export_kind (drop start bytes) (Some (Minimal 1))
kind_found start [] within lt = absurd (omega (arith, within))
kind_found zero (b ∷ bytes) within lt = kind_behind b bytes lt
kind_found (suc start) (b ∷ bytes) within lt = kind_found start bytes (omega (arith, within)) lt

pub export_scanned : (bytes : List ℕ) (text index : ℕ) → text < length bytes → get_or bytes text 0 < 5 → Scans name bytes (Some (Minimal text)) → Scans u32 (drop (text + 1) bytes) (Some (Minimal index)) → Scans export_entry bytes (Some (Minimal (text + 1 + index)))
unfolding export_entry
export_scanned bytes text index within lt n i =
    let all : text + (1 + index) ≡ text + 1 + index = omega arith in
    let rest = pair_scanned export_kind u32 (drop text bytes) 1 index (kind_found text bytes within lt) (behind_both u32 bytes text 1 index i) in
    let whole = pair_scanned name (export_kind ⊗ u32) bytes text (1 + index) n rest in
    let made_of = made_scanned export_of (λ e. Some (e.name, (e.kind, e.index))) (name ⊗ (export_kind ⊗ u32)) (λ p. refl) bytes (Some (Minimal (text + (1 + index)))) whole in
    subst (λ (n : ℕ). Scans export_entry bytes (Some (Minimal n))) all made_of

pub global_scanned : (bytes : List ℕ) (ty init : ℕ) → Scans global_type bytes (Some (Minimal ty)) → Scans expr (drop ty bytes) (Some (Minimal init)) → Scans global_entry bytes (Some (Minimal (ty + init)))
unfolding global_entry
global_scanned bytes ty init t e = made_scanned global_of (λ g. Some (g.ty, g.init)) (global_type ⊗ expr) (λ p. refl) bytes (Some (Minimal (ty + init))) (pair_scanned global_type expr bytes ty init t e)

-- ---- data segments

list_behind : (count : ℕ) (bytes : List ℕ) → count < 128 → count ≤ length bytes → Scans byte_list (count ∷ bytes) (Some (Minimal (1 + count)))
list_behind count bytes lt within =
    let next : 1 + count ≡ suc count = omega arith in
    let size = u32_one (place true (count ∷ bytes)) (place true bytes) count lt refl in
    (omega (arith, within), (take count bytes, rw (next, size, le-ltb (length bytes) count within) refl))

pub list_scanned : (bytes : List ℕ) (count : ℕ) → 0 < length bytes → get_or bytes 0 0 ≡ count → count < 128 → count ≤ length bytes - 1 → Scans byte_list bytes (Some (Minimal (1 + count)))
list_scanned [] count some is lt within = absurd (omega (arith, some))
list_scanned (first ∷ bytes) count some is lt within =
    subst (λ (n : ℕ). Scans byte_list (n ∷ bytes) (Some (Minimal (1 + count)))) (sym is) (list_behind count bytes lt (omega (arith, within)))

active_behind : (bytes : List ℕ) (offset contents : ℕ) → Scans expr bytes (Some (Minimal offset)) → Scans byte_list (drop offset bytes) (Some (Minimal contents)) → Scans data_segment (0 ∷ bytes) (Some (Minimal (1 + offset + contents)))
unfolding data_segment
active_behind bytes offset contents e l =
    let whole = pair_scanned expr byte_list bytes offset contents e l in
    let next : 1 + offset + contents ≡ suc (offset + contents) = omega arith in
    let number = u32_one (place true (0 ∷ bytes)) (place true bytes) 0 (omega arith) refl in
    (omega (arith, whole.0), (active_data 0 whole.1.0, rw (next, number, whole.1.1) refl))

passive_behind : (bytes : List ℕ) (contents : ℕ) → Scans byte_list bytes (Some (Minimal contents)) → Scans data_segment (1 ∷ bytes) (Some (Minimal (1 + contents)))
unfolding data_segment
passive_behind bytes contents l =
    let next : 1 + contents ≡ suc contents = omega arith in
    let number = u32_one (place true (1 ∷ bytes)) (place true bytes) 1 (omega arith) refl in
    (omega (arith, l.0), (passive_data l.1.0, rw (next, number, l.1.1) refl))

pub active_scanned : (bytes : List ℕ) (offset contents : ℕ) → 0 < length bytes → get_or bytes 0 0 ≡ 0 → Scans expr (drop 1 bytes) (Some (Minimal offset)) → Scans byte_list (drop (1 + offset) bytes) (Some (Minimal contents)) → Scans data_segment bytes (Some (Minimal (1 + offset + contents)))
active_scanned [] offset contents some is e l = absurd (omega (arith, some))
active_scanned (first ∷ bytes) offset contents some is e l =
    let next : 1 + offset ≡ suc offset = omega arith in
    subst (λ (b : ℕ). Scans data_segment (b ∷ bytes) (Some (Minimal (1 + offset + contents)))) (sym is) (active_behind bytes offset contents e (rw next at l))

pub passive_scanned : (bytes : List ℕ) (contents : ℕ) → 0 < length bytes → get_or bytes 0 0 ≡ 1 → Scans byte_list (drop 1 bytes) (Some (Minimal contents)) → Scans data_segment bytes (Some (Minimal (1 + contents)))
passive_scanned [] contents some is l = absurd (omega (arith, some))
passive_scanned (first ∷ bytes) contents some is l = subst (λ (b : ℕ). Scans data_segment (b ∷ bytes) (Some (Minimal (1 + contents)))) (sym is) (passive_behind bytes contents l)

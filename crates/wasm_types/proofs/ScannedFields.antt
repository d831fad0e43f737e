-- Field types that are seen at once to be minimally encoded.
use Rattle.std.proofs.Common.{◌≡◌, ℕ, zero, suc, ◌+◌, ◌<◌, List, [], ◌∷◌, length, length-drop, get_or, drop, true, false, Option, Some, None, IfSome, refl, arith}
use Rattle.std.proofs.lemmas.Bool.{ne_eqb}
use Rattle.wasm_codec.specs.Places.{byte_at}
use Rattle.wasm_codec.specs.Scanning.{Scans}
use Rattle.wasm_codec.specs.declared.rewriter.scan.Scanned.TheVariants.{Minimal}
use Rattle.wasm_codec.specs.formats.Combinators.{◌⊗◌}
use Rattle.wasm_codec.proofs.ScanLaws.{get_dropped, made_scanned, pair_scanned}
use Rattle.wasm_types.specs.declared.types.value.StorageType.TheVariants as storages
use Rattle.wasm_types.specs.formats.Types.{field_of, field_type, mutability, storage_type, val_type}

i8_scanned : (more : List ℕ) → Scans storage_type (0x78 ∷ more) (Some (Minimal 1))
unfolding storage_type byte_at
i8_scanned more = (omega arith, (storages.I8, refl))

i16_scanned : (more : List ℕ) → Scans storage_type (0x77 ∷ more) (Some (Minimal 1))
unfolding storage_type byte_at
i16_scanned more = (omega arith, (storages.I16, refl))

value_behind : (b : ℕ) (more : List ℕ) (n : ℕ) → (b ≡ 0x78 → ⊥) → (b ≡ 0x77 → ⊥) → Scans val_type (b ∷ more) (Some (Minimal n)) → Scans storage_type (b ∷ more) (Some (Minimal n))
unfolding storage_type byte_at
value_behind b more n no_i8 no_i16 r = (r.0, (storages.Val r.1.0, rw (ne_eqb b 0x78 no_i8, ne_eqb b 0x77 no_i16, r.1.1) refl))

pub i8_found : (bytes : List ℕ) → 0 < length bytes → get_or bytes 0 0 ≡ 0x78 → Scans storage_type bytes (Some (Minimal 1))
i8_found [] some is = absurd (omega (arith, some))
i8_found (b ∷ bytes) some is = rw is (i8_scanned bytes)

pub i16_found : (bytes : List ℕ) → 0 < length bytes → get_or bytes 0 0 ≡ 0x77 → Scans storage_type bytes (Some (Minimal 1))
i16_found [] some is = absurd (omega (arith, some))
i16_found (b ∷ bytes) some is = rw is (i16_scanned bytes)

pub value_found : (bytes : List ℕ) (r : Option ℕ) → 0 < length bytes → (get_or bytes 0 0 ≡ 0x77 → ⊥) → (get_or bytes 0 0 ≡ 0x78 → ⊥) → IfSome r (λ n. Scans val_type bytes (Some (Minimal n))) → IfSome r (λ n. Scans storage_type bytes (Some (Minimal n)))
value_found bytes None some no_i16 no_i8 r = tt
value_found [] (Some n) some no_i16 no_i8 r = absurd (omega (arith, some))
value_found (b ∷ bytes) (Some n) some no_i16 no_i8 r = value_behind b bytes n no_i8 no_i16 r

mutability_behind : (b : ℕ) (more : List ℕ) → b < 2 → Scans mutability (b ∷ more) (Some (Minimal 1))
unfolding mutability byte_at
mutability_behind zero more lt = (omega arith, (false, refl))
mutability_behind (suc zero) more lt = (omega arith, (true, refl))
mutability_behind (suc (suc b)) more lt = absurd (omega (arith, lt))

mutability_found : (bytes : List ℕ) → 0 < length bytes → get_or bytes 0 0 < 2 → Scans mutability bytes (Some (Minimal 1))
mutability_found [] some lt = absurd (omega (arith, some))
mutability_found (b ∷ bytes) some lt = mutability_behind b bytes lt

pub field_scanned : (bytes : List ℕ) (n : ℕ) → Scans storage_type bytes (Some (Minimal n)) → n < length bytes → get_or bytes n 0 < 2 → Scans field_type bytes (Some (Minimal (n + 1)))
unfolding field_type
field_scanned bytes n storage within lt =
    let behind = mutability_found (drop n bytes) (omega (arith, within, length-drop n bytes)) (rw (get_dropped n bytes) lt) in
    made_scanned field_of (λ f. Some (f.element_type, f.mutable)) (storage_type ⊗ mutability) (λ p. refl) bytes (Some (Minimal (n + 1))) (pair_scanned storage_type mutability bytes n 1 storage behind)

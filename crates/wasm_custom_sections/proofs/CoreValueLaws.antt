-- The laws of values in core dumps, and what is written of them.
use Rattle.std.proofs.Common.{◌≡◌, ℕ, ◌<◌, ◌^◌, List, [], ◌∷◌, refl, lit≤}
use Rattle.wasm_codec.specs.Encoding.{IsMinimal}
use Rattle.wasm_codec.specs.Lawful.{IsLawful}
use Rattle.wasm_codec.specs.Leb128.{signed_leb128}
use Rattle.wasm_codec.specs.formats.Combinators.{little_endian}
use Rattle.wasm_codec.specs.formats.Grammar.{TakesBytes}
use Rattle.wasm_codec.specs.formats.Numbers.{Within}
use Rattle.wasm_codec.proofs.FormatLaws.{Every-made, Lawful-made, Lawful-nothing, Lawful-s32, Tagged-never, Tagged-or, takes_bytes}
use Rattle.wasm_codec.proofs.NumberLaws.{written}
use Rattle.wasm_codec.proofs.RawFormatLaws.{Lawful-little-endian, Lawful-s64, little_range}
use Rattle.wasm_instructions.specs.formats.Operands.{ieee32, ieee64}
use Rattle.wasm_custom_sections.specs.declared.core_values.CoreDumpValue.{CoreDumpValue}
use Rattle.wasm_custom_sections.specs.declared.core_values.CoreDumpValue.TheVariants as values
use Rattle.wasm_custom_sections.specs.formats.CoreStacks.{core_value, f32_part, f64_part, i32_part, i64_part, missing_part, value_byte}

pub value_is_lawful : IsLawful core_value
unfolding core_value
value_is_lawful =
    (Tagged-or value_byte 0x01 refl (lit≤ tt) (Every-made (λ u. refl)) (Lawful-made (λ u. values.Missing) missing_part (λ u. refl) (Lawful-nothing tt))
    (Tagged-or value_byte 0x7f refl (lit≤ tt) (Every-made (λ n. refl)) (Lawful-made values.I32 i32_part (λ n. refl) Lawful-s32)
    (Tagged-or value_byte 0x7e refl (lit≤ tt) (Every-made (λ n. refl)) (Lawful-made values.I64 i64_part (λ n. refl) Lawful-s64)
    (Tagged-or value_byte 0x7d refl (lit≤ tt) (Every-made (λ n. refl)) (Lawful-made (λ bits. values.F32 (ieee32 bits)) f32_part (λ n. refl) (Lawful-little-endian 4))
    (Tagged-or value_byte 0x7c refl (lit≤ tt) (Every-made (λ n. refl)) (Lawful-made (λ bits. values.F64 (ieee64 bits)) f64_part (λ n. refl) (Lawful-little-endian 8))
    Tagged-never))))).choice.lawful

pub value_takes : TakesBytes core_value.Encodes
unfolding core_value
value_takes = takes_bytes value_is_lawful refl

-- ---- writing

-- the numbers are in the range of their kind
abbrev pub ValueFits : CoreDumpValue → Type 0
ValueFits values.Missing = Unit {0}
ValueFits (values.I32 n) = Within (2 ^ 31) n
ValueFits (values.I64 n) = Within (2 ^ 63) n
ValueFits (values.F32 n) = n.bits < 2 ^ 32
ValueFits (values.F64 n) = n.bits < 2 ^ 64

value_there : (v : CoreDumpValue) → ValueFits v → core_value.InRange v
unfolding core_value
value_there values.Missing fits = (refl, refl)
value_there (values.I32 n) fits = (fits, refl)
value_there (values.I64 n) fits = (fits, refl)
value_there (values.F32 n) fits = (little_range 4 n.bits fits, refl)
value_there (values.F64 n) fits = (little_range 8 n.bits fits, refl)

pub value_written : (v : CoreDumpValue) → ValueFits v → IsMinimal core_value.Encodes core_value.bytes v
value_written v fits = written value_is_lawful.minimal v (value_there v fits)

-- the bytes of each kind
abbrev pub value_bytes : CoreDumpValue → List ℕ
value_bytes values.Missing = 0x01 ∷ []
value_bytes (values.I32 n) = 0x7f ∷ signed_leb128 n
value_bytes (values.I64 n) = 0x7e ∷ signed_leb128 n
value_bytes (values.F32 n) = 0x7d ∷ (little_endian 4).bytes n.bits
value_bytes (values.F64 n) = 0x7c ∷ (little_endian 8).bytes n.bits

pub value_bytes_are : (v : CoreDumpValue) → core_value.bytes v ≡ value_bytes v
unfolding core_value
value_bytes_are values.Missing = refl
value_bytes_are (values.I32 n) = refl
value_bytes_are (values.I64 n) = refl
value_bytes_are (values.F32 n) = refl
value_bytes_are (values.F64 n) = refl

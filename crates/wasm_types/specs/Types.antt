-- Predicates of value types, and the value type of a field.
use Rattle.std.specs.Prelude.{Bool, true, false}
use Rattle.wasm_types.specs.declared.types.value.ValType.{ValType}
use Rattle.wasm_types.specs.declared.types.value.ValType.TheVariants as values
use Rattle.wasm_types.specs.declared.types.value.StorageType.{StorageType}
use Rattle.wasm_types.specs.declared.types.value.StorageType.TheVariants as storages

-- The type is `i32`, `i64`, `f32` or `f64`.
abbrev pub is_numeric : ValType → Bool
is_numeric values.I32 = true
is_numeric values.I64 = true
is_numeric values.F32 = true
is_numeric values.F64 = true
is_numeric values.V128 = false
is_numeric (values.Ref ty) = false

-- The type is `v128`.
abbrev pub is_vector : ValType → Bool
is_vector values.I32 = false
is_vector values.I64 = false
is_vector values.F32 = false
is_vector values.F64 = false
is_vector values.V128 = true
is_vector (values.Ref ty) = false

-- The type is a reference.
abbrev pub is_reference : ValType → Bool
is_reference values.I32 = false
is_reference values.I64 = false
is_reference values.F32 = false
is_reference values.F64 = false
is_reference values.V128 = false
is_reference (values.Ref ty) = true

-- The type has a default value: it isn't a reference without null.
abbrev pub is_defaultable : ValType → Bool
is_defaultable values.I32 = true
is_defaultable values.I64 = true
is_defaultable values.F32 = true
is_defaultable values.F64 = true
is_defaultable values.V128 = true
is_defaultable (values.Ref ty) = ty.nullable

-- The type of the value that is read from a field: `i32` for a packed type.
abbrev pub unpacked : StorageType → ValType
unpacked storages.I8 = values.I32
unpacked storages.I16 = values.I32
unpacked (storages.Val ty) = ty

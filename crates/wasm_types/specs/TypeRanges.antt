-- Types whose numbers are in the ranges of their widths.
use Rattle.std.specs.Prelude.{ℕ, ◌^◌, ◌<◌}
use Rattle.wasm_types.specs.declared.types.heap.HeapType.{HeapType}
use Rattle.wasm_types.specs.declared.types.heap.HeapType.TheVariants.{Abstract, Concrete, Exact}
use Rattle.wasm_types.specs.declared.types.value.ValType.{ValType}
use Rattle.wasm_types.specs.declared.types.value.ValType.TheVariants as values
use Rattle.wasm_types.specs.declared.types.value.StorageType.{StorageType}
use Rattle.wasm_types.specs.declared.types.value.StorageType.TheVariants as storages

-- The number fits in a u32.
abbrev pub IsU32 : ℕ → Type 0
IsU32 n = n < 2 ^ 32

-- The index in the heap type fits in a u32.
abbrev pub HeapTypeFits : HeapType → Type 0
HeapTypeFits (Abstract shared ty) = Unit {0}
HeapTypeFits (Concrete index) = IsU32 index
HeapTypeFits (Exact index) = IsU32 index

-- The index in the value type fits in a u32.
abbrev pub ValTypeFits : ValType → Type 0
ValTypeFits values.I32 = Unit {0}
ValTypeFits values.I64 = Unit {0}
ValTypeFits values.F32 = Unit {0}
ValTypeFits values.F64 = Unit {0}
ValTypeFits values.V128 = Unit {0}
ValTypeFits (values.Ref r) = HeapTypeFits r.heap_type

-- The index in the storage type fits in a u32.
abbrev pub StorageTypeFits : StorageType → Type 0
StorageTypeFits storages.I8 = Unit {0}
StorageTypeFits storages.I16 = Unit {0}
StorageTypeFits (storages.Val v) = ValTypeFits v

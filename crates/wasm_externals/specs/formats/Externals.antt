-- Limits, the types of imports (WebAssembly Core 3.0, Types), and the kinds of exports (Export Section). Shared tables
-- and globals, and page sizes, belong to proposals.
use Rattle.std.specs.Prelude.{ℕ, ◌^◌, ◌<◌, Bool, true, false, is_some, IfSome, List, [], ◌∷◌, Option, Some, None}
use Rattle.wasm_types.specs.declared.types.heap.RefType.{RefType}
use Rattle.wasm_types.specs.declared.types.value.ValType.{ValType}
use Rattle.wasm_types.specs.formats.Types.{ref_type, val_type}
use Rattle.wasm_codec.specs.formats.Combinators.{Format, ◌⊗◌, ◌⊗>◌, made, made_of, any_of, no_other, tagged, one_byte, u32, u64}
use Rattle.wasm_externals.specs.declared.limits.MemoryType.{MemoryType}
use Rattle.wasm_externals.specs.declared.limits.TableType.{TableType}
use Rattle.wasm_externals.specs.declared.types.GlobalType.{GlobalType}
use Rattle.wasm_externals.specs.declared.types.TagKind.{TagKind}
use Rattle.wasm_externals.specs.declared.types.TagKind.TheVariants as tag_kinds
use Rattle.wasm_externals.specs.declared.types.TagType.{TagType}
use Rattle.wasm_externals.specs.declared.types.EntityType.{EntityType}
use Rattle.wasm_externals.specs.declared.types.EntityType.TheVariants as entities
use Rattle.wasm_externals.specs.declared.types.ExportKind.{ExportKind}
use Rattle.wasm_externals.specs.declared.types.ExportKind.TheVariants as exports
use Rattle.wasm_externals.specs.formats.PartCombinators.{part_if}

-- ---- limits

-- Flags of limits: they have a maximum, they are shared, and addresses have 64 bits.
abbrev pub Flags : Type 0
Flags = Bool × (Bool × Bool)

-- The byte of the flags of limits.
abbrev pub flags_byte : Flags → Option ℕ
flags_byte (false, (false, false)) = Some 0x00
flags_byte (true, (false, false)) = Some 0x01
flags_byte (false, (true, false)) = Some 0x02
flags_byte (true, (true, false)) = Some 0x03
flags_byte (false, (false, true)) = Some 0x04
flags_byte (true, (false, true)) = Some 0x05
flags_byte (false, (true, true)) = Some 0x06
flags_byte (true, (true, true)) = Some 0x07

-- All flags of limits.
abbrev pub all_flags : List Flags
all_flags =
    (false, (false, false)) ∷ (true, (false, false)) ∷ (false, (true, false)) ∷ (true, (true, false))
    ∷ (false, (false, true)) ∷ (true, (false, true)) ∷ (false, (true, true)) ∷ (true, (true, true)) ∷ []

-- The flags of the limits of a table.
unfoldable pub limits_flags : Format Flags
limits_flags = one_byte flags_byte all_flags

-- The byte of the flags of a memory: those of limits, and whether a page size follows.
abbrev pub paged_byte : Flags × Bool → Option ℕ
paged_byte (f, false) = flags_byte f
paged_byte ((false, (false, false)), true) = Some 0x08
paged_byte ((true, (false, false)), true) = Some 0x09
paged_byte ((false, (true, false)), true) = Some 0x0a
paged_byte ((true, (true, false)), true) = Some 0x0b
paged_byte ((false, (false, true)), true) = Some 0x0c
paged_byte ((true, (false, true)), true) = Some 0x0d
paged_byte ((false, (true, true)), true) = Some 0x0e
paged_byte ((true, (true, true)), true) = Some 0x0f

-- All flags of the limits of a memory.
abbrev pub all_paged : List (Flags × Bool)
all_paged =
    ((false, (false, false)), false) ∷ ((true, (false, false)), false) ∷ ((false, (true, false)), false) ∷ ((true, (true, false)), false)
    ∷ ((false, (false, true)), false) ∷ ((true, (false, true)), false) ∷ ((false, (true, true)), false) ∷ ((true, (true, true)), false)
    ∷ ((false, (false, false)), true) ∷ ((true, (false, false)), true) ∷ ((false, (true, false)), true) ∷ ((true, (true, false)), true)
    ∷ ((false, (false, true)), true) ∷ ((true, (false, true)), true) ∷ ((false, (true, true)), true) ∷ ((true, (true, true)), true) ∷ []

-- The flags of the limits of a memory.
unfoldable pub memory_flags : Format (Flags × Bool)
memory_flags = one_byte paged_byte all_paged

-- ---- memories

abbrev pub MemoryParts : Type 0
MemoryParts = (Flags × Bool) × (ℕ × (Option ℕ × Option ℕ))

abbrev pub memory_of : MemoryParts → MemoryType
memory_of p = record { minimum = p.1.0; maximum = p.1.1.0; memory64 = p.0.0.1.1; shared = p.0.0.1.0; page_size_log2 = p.1.1.1 }

abbrev pub memory_parts : MemoryType → MemoryParts
memory_parts m = (((is_some m.maximum, (m.shared, m.memory64)), is_some m.page_size_log2), (m.minimum, (m.maximum, m.page_size_log2)))

-- The minimum and the maximum fit in a u64, and the page size's logarithm in a u32.
pub record MemoryInRange (m : MemoryType) : Type 0 where
  pub minimum : m.minimum < 2 ^ 64
  pub maximum : IfSome m.maximum (λ n. n < 2 ^ 64)
  pub page_size_log2 : IfSome m.page_size_log2 (λ n. n < 2 ^ 32)

-- A memory type, in parts.
abbrev pub memory_format : Format MemoryParts
memory_format = memory_flags ⊗> λ f. u64 ⊗ (part_if f.0.0 u64 ⊗ part_if f.1 u32)

-- A memory type.
-- memtype ::= lim:limits ⇒ lim, limits ::= 0x00 n:u64 ⇒ (i32, [n..]) | 0x01 n:u64 m:u64 ⇒ (i32, [n..m])
--          |  0x04 n:u64 ⇒ (i64, [n..]) | 0x05 n:u64 m:u64 ⇒ (i64, [n..m])
-- by proposals: 2 more if it is shared, and 8 more if a u32 gives the size of a page
unfoldable pub memory_type : Format MemoryType
memory_type = made_of memory_of memory_parts MemoryInRange memory_format

-- ---- tables

abbrev pub TableParts : Type 0
TableParts = RefType × (Flags × (ℕ × Option ℕ))

abbrev pub table_of : TableParts → TableType
table_of p = record { element_type = p.0; table64 = p.1.0.1.1; minimum = p.1.1.0; maximum = p.1.1.1; shared = p.1.0.1.0 }

abbrev pub table_parts : TableType → TableParts
table_parts t = (t.element_type, ((is_some t.maximum, (t.shared, t.table64)), (t.minimum, t.maximum)))

-- The element type is in range, and the minimum and the maximum fit in a u64.
pub record TableInRange (t : TableType) : Type 0 where
  pub element_type : ref_type.InRange t.element_type
  pub minimum : t.minimum < 2 ^ 64
  pub maximum : IfSome t.maximum (λ n. n < 2 ^ 64)

-- A table type, in parts.
abbrev pub table_format : Format TableParts
table_format = ref_type ⊗ (limits_flags ⊗> λ f. u64 ⊗ part_if f.0 u64)

-- A table type.
-- tabletype ::= et:reftype lim:limits ⇒ lim et
unfoldable pub table_type : Format TableType
table_type = made_of table_of table_parts TableInRange table_format

-- ---- globals

-- The byte of a global's flags.
abbrev pub global_byte : Bool × Bool → Option ℕ
global_byte (false, false) = Some 0x00
global_byte (true, false) = Some 0x01
global_byte (false, true) = Some 0x02
global_byte (true, true) = Some 0x03

-- The flags of a global: it is mutable, and it is shared.
unfoldable pub global_flags : Format (Bool × Bool)
global_flags = one_byte global_byte ((false, false) ∷ (true, false) ∷ (false, true) ∷ (true, true) ∷ [])

abbrev pub global_type_of : ValType × (Bool × Bool) → GlobalType
global_type_of p = record { val_type = p.0; mutable = p.1.0; shared = p.1.1 }

-- A global type.
-- globaltype ::= t:valtype mut?:mut ⇒ mut? t, by a proposal: 2 more if it is shared
unfoldable pub global_type : Format GlobalType
global_type = made global_type_of (λ g. Some (g.val_type, (g.mutable, g.shared))) (val_type ⊗ global_flags)

-- ---- tags

abbrev pub tag_kind_byte : TagKind → Option ℕ
tag_kind_byte tag_kinds.Exception = Some 0x00

abbrev pub tag_of : TagKind × ℕ → TagType
tag_of p = record { kind = p.0; func_type_idx = p.1 }

-- A tag type.
-- tagtype ::= 0x00 x:typeidx ⇒ x
unfoldable pub tag_type : Format TagType
tag_type = made tag_of (λ t. Some (t.kind, t.func_type_idx)) (one_byte tag_kind_byte (tag_kinds.Exception ∷ []) ⊗ u32)

-- ---- imports

abbrev pub function_part : EntityType → Option ℕ
function_part (entities.Function n) = Some n
function_part e = None

abbrev pub table_part : EntityType → Option TableType
table_part (entities.Table t) = Some t
table_part e = None

abbrev pub memory_part : EntityType → Option MemoryType
memory_part (entities.Memory m) = Some m
memory_part e = None

abbrev pub global_part : EntityType → Option GlobalType
global_part (entities.Global g) = Some g
global_part e = None

abbrev pub tag_part : EntityType → Option TagType
tag_part (entities.Tag t) = Some t
tag_part e = None

abbrev pub exact_function_part : EntityType → Option ℕ
exact_function_part (entities.FunctionExact n) = Some n
exact_function_part e = None

abbrev pub entity_byte : EntityType → ℕ
entity_byte (entities.Function n) = 0x00
entity_byte (entities.Table t) = 0x01
entity_byte (entities.Memory m) = 0x02
entity_byte (entities.Global g) = 0x03
entity_byte (entities.Tag t) = 0x04
entity_byte (entities.FunctionExact n) = 0x20

-- The type of an import.
-- externtype ::= 0x00 x:typeidx ⇒ func x | 0x01 tt:tabletype ⇒ table tt | 0x02 mt:memtype ⇒ mem mt
--             |  0x03 gt:globaltype ⇒ global gt | 0x04 jt:tagtype ⇒ tag jt
-- by a proposal: 0x20 x:typeidx for a function of exactly that type
unfoldable pub entity_type : Format EntityType
entity_type = any_of
    (tagged entity_byte 0x00 (made entities.Function function_part u32)
    (tagged entity_byte 0x01 (made entities.Table table_part table_type)
    (tagged entity_byte 0x02 (made entities.Memory memory_part memory_type)
    (tagged entity_byte 0x03 (made entities.Global global_part global_type)
    (tagged entity_byte 0x04 (made entities.Tag tag_part tag_type)
    (tagged entity_byte 0x20 (made entities.FunctionExact exact_function_part u32)
    no_other))))))

-- ---- exports

abbrev pub export_kind_byte : ExportKind → Option ℕ
export_kind_byte exports.Func = Some 0x00
export_kind_byte exports.Table = Some 0x01
export_kind_byte exports.Memory = Some 0x02
export_kind_byte exports.Global = Some 0x03
export_kind_byte exports.Tag = Some 0x04

-- The kind of an export.
-- externidx ::= 0x00 x:funcidx | 0x01 x:tableidx | 0x02 x:memidx | 0x03 x:globalidx | 0x04 x:tagidx
unfoldable pub export_kind : Format ExportKind
export_kind = one_byte export_kind_byte (exports.Func ∷ exports.Table ∷ exports.Memory ∷ exports.Global ∷ exports.Tag ∷ [])

-- The laws of types of imports and exports, and what is read, rewritten and written of them.
use Rattle.std.proofs.Common.{◌≡◌, [], ◌∷◌, Bool, true, false, Some, refl, ap, ◌∙◌, lit≤, ℕ, List, Option, None, IfSome, ◌++◌, ◌+◌, ◌^◌, ◌<◌}
use Rattle.std.specs.Prelude.{is_some, IfSome}
use Rattle.wasm_codec.specs.formats.Combinators.{u32, u64}
use Rattle.wasm_codec.specs.Lawful.{IsLawful}
use Rattle.wasm_codec.specs.formats.Grammar.{TakesBytes}
use Rattle.wasm_codec.specs.Encoding.{IsMinimal}
use Rattle.wasm_codec.specs.Leb128.{unsigned_leb128}
use Rattle.wasm_codec.specs.formats.Numbers.{EncodesU32, EncodesU64}
use Rattle.wasm_codec.proofs.FormatLaws.{IsFound, Every-made, Lawful-made, Lawful-then, Lawful-both, Lawful-one-byte, Lawful-u32, Lawful-u64, Tagged-or, Tagged-never, takes_bytes}
use Rattle.wasm_codec.proofs.RawFormatLaws.{Lawful-made-of}
use Rattle.wasm_codec.proofs.Laws.{some_is}
use Rattle.wasm_codec.proofs.NumberLaws.{written}
use Rattle.wasm_types.specs.formats.Types.{ref_type, val_type}
use Rattle.wasm_types.specs.TypeRanges.{HeapTypeFits, ValTypeFits}
use Rattle.wasm_types.proofs.TypeFormatLaws.{Lawful-ref-type, Lawful-val-type}
use Rattle.wasm_lists.proofs.WrittenLists.{in_range_of}
use Rattle.wasm_types.proofs.WrittenTypes.{ref_written, val_in_range}
use Rattle.wasm_codec.proofs.AppendLaws.{two, four}
use Rattle.wasm_externals.specs.declared.limits.MemoryType.{MemoryType}
use Rattle.wasm_externals.specs.declared.limits.TableType.{TableType}
use Rattle.wasm_externals.specs.declared.types.TagKind.{TagKind}
use Rattle.wasm_externals.specs.declared.types.ExportKind.{ExportKind}
use Rattle.wasm_externals.specs.formats.Externals.{Flags, flags_byte, all_flags, limits_flags, paged_byte, all_paged, memory_flags, MemoryParts, memory_of, memory_parts, MemoryInRange, memory_format, memory_type, TableParts, table_of, table_parts, TableInRange, table_format, table_type, global_byte, global_flags, global_type_of, global_type, tag_kind_byte, tag_of, tag_type, function_part, table_part, memory_part, global_part, tag_part, exact_function_part, entity_byte, entity_type, export_kind_byte, export_kind}
use Rattle.wasm_externals.specs.formats.PartCombinators.{part_if}
use Rattle.wasm_externals.specs.declared.types.GlobalType.{GlobalType}
use Rattle.wasm_externals.specs.declared.types.TagType.{TagType}
use Rattle.wasm_externals.specs.declared.types.TagKind.TheVariants as tag_kinds
use Rattle.wasm_externals.specs.declared.types.EntityType.TheVariants as entities
use Rattle.wasm_externals.specs.declared.types.ExportKind.TheVariants as exports
use Rattle.wasm_externals.proofs.PartCombinatorLaws.{Lawful-part-if, part_tells, part_range, part_in_range}

-- ---- limits

flags_found : (f : Flags) → IsFound flags_byte all_flags f
flags_found (false, (false, false)) = (refl, refl)
flags_found (true, (false, false)) = (refl, refl)
flags_found (false, (true, false)) = (refl, refl)
flags_found (true, (true, false)) = (refl, refl)
flags_found (false, (false, true)) = (refl, refl)
flags_found (true, (false, true)) = (refl, refl)
flags_found (false, (true, true)) = (refl, refl)
flags_found (true, (true, true)) = (refl, refl)

flags_some : (f : Flags) → is_some (flags_byte f) ≡ true
flags_some (false, (false, false)) = refl
flags_some (true, (false, false)) = refl
flags_some (false, (true, false)) = refl
flags_some (true, (true, false)) = refl
flags_some (false, (false, true)) = refl
flags_some (true, (false, true)) = refl
flags_some (false, (true, true)) = refl
flags_some (true, (true, true)) = refl

paged_found : (f : Flags × Bool) → IsFound paged_byte all_paged f
paged_found ((false, (false, false)), false) = (refl, refl)
paged_found ((true, (false, false)), false) = (refl, refl)
paged_found ((false, (true, false)), false) = (refl, refl)
paged_found ((true, (true, false)), false) = (refl, refl)
paged_found ((false, (false, true)), false) = (refl, refl)
paged_found ((true, (false, true)), false) = (refl, refl)
paged_found ((false, (true, true)), false) = (refl, refl)
paged_found ((true, (true, true)), false) = (refl, refl)
paged_found ((false, (false, false)), true) = (refl, refl)
paged_found ((true, (false, false)), true) = (refl, refl)
paged_found ((false, (true, false)), true) = (refl, refl)
paged_found ((true, (true, false)), true) = (refl, refl)
paged_found ((false, (false, true)), true) = (refl, refl)
paged_found ((true, (false, true)), true) = (refl, refl)
paged_found ((false, (true, true)), true) = (refl, refl)
paged_found ((true, (true, true)), true) = (refl, refl)

paged_some : (f : Flags × Bool) → is_some (paged_byte f) ≡ true
paged_some ((false, (false, false)), false) = refl
paged_some ((true, (false, false)), false) = refl
paged_some ((false, (true, false)), false) = refl
paged_some ((true, (true, false)), false) = refl
paged_some ((false, (false, true)), false) = refl
paged_some ((true, (false, true)), false) = refl
paged_some ((false, (true, true)), false) = refl
paged_some ((true, (true, true)), false) = refl
paged_some ((false, (false, false)), true) = refl
paged_some ((true, (false, false)), true) = refl
paged_some ((false, (true, false)), true) = refl
paged_some ((true, (true, false)), true) = refl
paged_some ((false, (false, true)), true) = refl
paged_some ((true, (false, true)), true) = refl
paged_some ((false, (true, true)), true) = refl
paged_some ((true, (true, true)), true) = refl

pub Lawful-limits-flags : IsLawful limits_flags
unfolding limits_flags
Lawful-limits-flags = Lawful-one-byte flags_byte all_flags flags_found

pub Lawful-memory-flags : IsLawful memory_flags
unfolding memory_flags
Lawful-memory-flags = Lawful-one-byte paged_byte all_paged paged_found

-- ---- memories and tables

pub memory_back : (p : MemoryParts) → memory_format.InRange p → MemoryInRange (memory_of p) × (memory_parts (memory_of p) ≡ p)
memory_back p fits =
    let max = fits.1.1.0 in
    let page = fits.1.1.1 in (
      record { minimum = fits.1.0; maximum = part_range u64 p.0.0.0 p.1.1.0 max; page_size_log2 = part_range u32 p.0.1 p.1.1.1 page },
      ap (λ (b : Bool). (((b, p.0.0.1), is_some p.1.1.1), p.1)) (part_tells u64 p.0.0.0 p.1.1.0 max) ∙ ap (λ (b : Bool). ((p.0.0, b), p.1)) (part_tells u32 p.0.1 p.1.1.1 page),
    )

memory_there : (m : MemoryType) → MemoryInRange m → memory_format.InRange (memory_parts m) × (memory_of (memory_parts m) ≡ m)
unfolding memory_flags
memory_there m fits = ((paged_some ((is_some m.maximum, (m.shared, m.memory64)), is_some m.page_size_log2), (fits.minimum, (part_in_range u64 m.maximum fits.maximum, part_in_range u32 m.page_size_log2 fits.page_size_log2))), refl)

pub Lawful-memory-format : IsLawful memory_format
Lawful-memory-format = Lawful-then Lawful-memory-flags (λ f. Lawful-both Lawful-u64 (Lawful-both (Lawful-part-if f.0.0 Lawful-u64) (Lawful-part-if f.1 Lawful-u32)))

pub Lawful-memory-type : IsLawful memory_type
unfolding memory_type
Lawful-memory-type = Lawful-made-of memory_of memory_parts MemoryInRange memory_back memory_there Lawful-memory-format

pub table_back : (p : TableParts) → table_format.InRange p → TableInRange (table_of p) × (table_parts (table_of p) ≡ p)
table_back p fits =
    let max = fits.1.1.1 in
    (record { element_type = fits.0; minimum = fits.1.1.0; maximum = part_range u64 p.1.0.0 p.1.1.1 max }, ap (λ (b : Bool). (p.0, ((b, p.1.0.1), p.1.1))) (part_tells u64 p.1.0.0 p.1.1.1 max))

table_there : (t : TableType) → TableInRange t → table_format.InRange (table_parts t) × (table_of (table_parts t) ≡ t)
unfolding limits_flags
table_there t fits = ((fits.element_type, (flags_some (is_some t.maximum, (t.shared, t.table64)), (fits.minimum, part_in_range u64 t.maximum fits.maximum))), refl)

pub Lawful-table-format : IsLawful table_format
Lawful-table-format = Lawful-both Lawful-ref-type (Lawful-then Lawful-limits-flags (λ f. Lawful-both Lawful-u64 (Lawful-part-if f.0 Lawful-u64)))

pub Lawful-table-type : IsLawful table_type
unfolding table_type
Lawful-table-type = Lawful-made-of table_of table_parts TableInRange table_back table_there Lawful-table-format

-- ---- globals and tags

global_found : (f : Bool × Bool) → IsFound global_byte ((false, false) ∷ (true, false) ∷ (false, true) ∷ (true, true) ∷ []) f
global_found (false, false) = (refl, refl)
global_found (true, false) = (refl, refl)
global_found (false, true) = (refl, refl)
global_found (true, true) = (refl, refl)

pub Lawful-global-type : IsLawful global_type
unfolding global_type global_flags
Lawful-global-type = Lawful-made global_type_of (λ g. Some (g.val_type, (g.mutable, g.shared))) (λ p. refl) (Lawful-both Lawful-val-type (Lawful-one-byte global_byte ((false, false) ∷ (true, false) ∷ (false, true) ∷ (true, true) ∷ []) global_found))

tag_kind_found : (k : TagKind) → IsFound tag_kind_byte (tag_kinds.Exception ∷ []) k
tag_kind_found tag_kinds.Exception = (refl, refl)

pub Lawful-tag-type : IsLawful tag_type
unfolding tag_type
Lawful-tag-type = Lawful-made tag_of (λ t. Some (t.kind, t.func_type_idx)) (λ p. refl) (Lawful-both (Lawful-one-byte tag_kind_byte (tag_kinds.Exception ∷ []) tag_kind_found) Lawful-u32)

-- ---- what is imported and exported

pub Lawful-entity-type : IsLawful entity_type
unfolding entity_type
Lawful-entity-type =
    (Tagged-or entity_byte 0x00 refl (lit≤ tt) (Every-made (λ n. refl)) (Lawful-made entities.Function function_part (λ n. refl) Lawful-u32)
    (Tagged-or entity_byte 0x01 refl (lit≤ tt) (Every-made (λ t. refl)) (Lawful-made entities.Table table_part (λ t. refl) Lawful-table-type)
    (Tagged-or entity_byte 0x02 refl (lit≤ tt) (Every-made (λ m. refl)) (Lawful-made entities.Memory memory_part (λ m. refl) Lawful-memory-type)
    (Tagged-or entity_byte 0x03 refl (lit≤ tt) (Every-made (λ g. refl)) (Lawful-made entities.Global global_part (λ g. refl) Lawful-global-type)
    (Tagged-or entity_byte 0x04 refl (lit≤ tt) (Every-made (λ t. refl)) (Lawful-made entities.Tag tag_part (λ t. refl) Lawful-tag-type)
    (Tagged-or entity_byte 0x20 refl (lit≤ tt) (Every-made (λ n. refl)) (Lawful-made entities.FunctionExact exact_function_part (λ n. refl) Lawful-u32)
    Tagged-never)))))).choice.lawful

export_found : (k : ExportKind) → IsFound export_kind_byte (exports.Func ∷ exports.Table ∷ exports.Memory ∷ exports.Global ∷ exports.Tag ∷ []) k
export_found exports.Func = (refl, refl)
export_found exports.Table = (refl, refl)
export_found exports.Memory = (refl, refl)
export_found exports.Global = (refl, refl)
export_found exports.Tag = (refl, refl)

pub Lawful-export-kind : IsLawful export_kind
unfolding export_kind
Lawful-export-kind = Lawful-one-byte export_kind_byte (exports.Func ∷ exports.Table ∷ exports.Memory ∷ exports.Global ∷ exports.Tag ∷ []) export_found

-- ---- writing

pub paged_is : (f : Flags) (b : ℕ) → flags_byte f ≡ Some b → paged_byte (f, true) ≡ Some (b + 8)
paged_is (false, (false, false)) b e = ap (λ (n : ℕ). Some (n + 8)) (some_is 0 b e)
paged_is (true, (false, false)) b e = ap (λ (n : ℕ). Some (n + 8)) (some_is 1 b e)
paged_is (false, (true, false)) b e = ap (λ (n : ℕ). Some (n + 8)) (some_is 2 b e)
paged_is (true, (true, false)) b e = ap (λ (n : ℕ). Some (n + 8)) (some_is 3 b e)
paged_is (false, (false, true)) b e = ap (λ (n : ℕ). Some (n + 8)) (some_is 4 b e)
paged_is (true, (false, true)) b e = ap (λ (n : ℕ). Some (n + 8)) (some_is 5 b e)
paged_is (false, (true, true)) b e = ap (λ (n : ℕ). Some (n + 8)) (some_is 6 b e)
paged_is (true, (true, true)) b e = ap (λ (n : ℕ). Some (n + 8)) (some_is 7 b e)

-- ---- memories and tables

pub memory_put : (m : MemoryType) (old one more most new : List ℕ) (byte : ℕ) → paged_byte ((is_some m.maximum, (m.shared, m.memory64)), is_some m.page_size_log2) ≡ Some byte → one ≡ old ++ byte ∷ [] → more ≡ one ++ unsigned_leb128 m.minimum
    → most ≡ more ++ (part_if (is_some m.maximum) u64).bytes m.maximum → new ≡ most ++ (part_if (is_some m.page_size_log2) u32).bytes m.page_size_log2 → new ≡ old ++ memory_type.bytes m
unfolding memory_type memory_flags
memory_put m old one more most new byte e p q r s = rw e (four old (byte ∷ []) (unsigned_leb128 m.minimum) ((part_if (is_some m.maximum) u64).bytes m.maximum) ((part_if (is_some m.page_size_log2) u32).bytes m.page_size_log2) one more most new p q r s)

in_u64 : (n : ℕ) → IsMinimal EncodesU64 unsigned_leb128 n → n < 2 ^ 64
in_u64 n h = in_range_of u64 Lawful-u64 n h

in_u32 : (n : ℕ) → IsMinimal EncodesU32 unsigned_leb128 n → n < 2 ^ 32
in_u32 n h = in_range_of u32 Lawful-u32 n h

some_in : {P Q : ℕ → Type 0} → ((n : ℕ) → P n → Q n) → (o : Option ℕ) → IfSome o P → IfSome o Q
some_in f None h = tt
some_in f (Some n) h = f n h

pub memory_written : (m : MemoryType) → IsMinimal EncodesU64 unsigned_leb128 m.minimum → IfSome m.maximum (IsMinimal EncodesU64 unsigned_leb128) → IfSome m.page_size_log2 (IsMinimal EncodesU32 unsigned_leb128) → IsMinimal memory_type.Encodes memory_type.bytes m
unfolding memory_type
memory_written m least most page = written Lawful-memory-type.minimal m (record { minimum = in_u64 m.minimum least; maximum = some_in in_u64 m.maximum most; page_size_log2 = some_in in_u32 m.page_size_log2 page })

pub table_put : (t : TableType) (old one more most new : List ℕ) (byte : ℕ) → flags_byte (is_some t.maximum, (t.shared, t.table64)) ≡ Some byte → one ≡ old ++ ref_type.bytes t.element_type → more ≡ one ++ byte ∷ [] → most ≡ more ++ unsigned_leb128 t.minimum
    → new ≡ most ++ (part_if (is_some t.maximum) u64).bytes t.maximum → new ≡ old ++ table_type.bytes t
unfolding table_type limits_flags
table_put t old one more most new byte e p q r s = rw e (four old (ref_type.bytes t.element_type) (byte ∷ []) (unsigned_leb128 t.minimum) ((part_if (is_some t.maximum) u64).bytes t.maximum) one more most new p q r s)

pub table_written : (t : TableType) → HeapTypeFits t.element_type.heap_type → IsMinimal EncodesU64 unsigned_leb128 t.minimum → IfSome t.maximum (IsMinimal EncodesU64 unsigned_leb128) → IsMinimal table_type.Encodes table_type.bytes t
unfolding table_type
table_written t fits least most = written Lawful-table-type.minimal t (record { element_type = in_range_of ref_type Lawful-ref-type t.element_type (ref_written t.element_type fits); minimum = in_u64 t.minimum least; maximum = some_in in_u64 t.maximum most })

-- ---- globals and tags

pub global_put : (g : GlobalType) (old one new : List ℕ) (byte : ℕ) → global_byte (g.mutable, g.shared) ≡ Some byte → one ≡ old ++ val_type.bytes g.val_type → new ≡ one ++ byte ∷ [] → new ≡ old ++ global_type.bytes g
unfolding global_type global_flags
global_put g old one new byte e p q = rw e (two old (val_type.bytes g.val_type) (byte ∷ []) one new p q)

global_there : (mutable shared : Bool) → is_some (global_byte (mutable, shared)) ≡ true
global_there false false = refl
global_there true false = refl
global_there false true = refl
global_there true true = refl

pub global_written : (g : GlobalType) → ValTypeFits g.val_type → IsMinimal global_type.Encodes global_type.bytes g
unfolding global_type global_flags
global_written g fits = written Lawful-global-type.minimal g ((val_in_range g.val_type fits, global_there g.mutable g.shared), refl)

pub tag_put : (t : TagType) (old one new : List ℕ) → one ≡ old ++ 0x00 ∷ [] → new ≡ one ++ unsigned_leb128 t.func_type_idx → new ≡ old ++ tag_type.bytes t
unfolding tag_type
tag_put t old one new p q = by t.kind refl where
  by : (kind : TagKind) → t.kind ≡ kind → new ≡ old ++ tag_type.bytes t
  by tag_kinds.Exception is = rw is (two old (0x00 ∷ []) (unsigned_leb128 t.func_type_idx) one new p q)

tag_there : (t : TagType) → t.func_type_idx < 2 ^ 32 → tag_type.InRange t
unfolding tag_type
tag_there t small = by t.kind refl where
  by : (kind : TagKind) → t.kind ≡ kind → tag_type.InRange t
  by tag_kinds.Exception is = rw is ((refl, small), refl)

pub tag_written : (t : TagType) → IsMinimal EncodesU32 unsigned_leb128 t.func_type_idx → IsMinimal tag_type.Encodes tag_type.bytes t
tag_written t h = written Lawful-tag-type.minimal t (tag_there t (in_u32 t.func_type_idx h))

-- ---- what is imported

pub function_entity_written : (n : ℕ) → IsMinimal EncodesU32 unsigned_leb128 n → IsMinimal entity_type.Encodes entity_type.bytes (entities.Function n)
unfolding entity_type
function_entity_written n h = written Lawful-entity-type.minimal (entities.Function n) (in_u32 n h, refl)

pub exact_entity_written : (n : ℕ) → IsMinimal EncodesU32 unsigned_leb128 n → IsMinimal entity_type.Encodes entity_type.bytes (entities.FunctionExact n)
unfolding entity_type
exact_entity_written n h = written Lawful-entity-type.minimal (entities.FunctionExact n) (in_u32 n h, refl)

pub table_entity_written : (t : TableType) → IsMinimal table_type.Encodes table_type.bytes t → IsMinimal entity_type.Encodes entity_type.bytes (entities.Table t)
unfolding entity_type
table_entity_written t h = written Lawful-entity-type.minimal (entities.Table t) (in_range_of table_type Lawful-table-type t h, refl)

pub memory_entity_written : (m : MemoryType) → IsMinimal memory_type.Encodes memory_type.bytes m → IsMinimal entity_type.Encodes entity_type.bytes (entities.Memory m)
unfolding entity_type
memory_entity_written m h = written Lawful-entity-type.minimal (entities.Memory m) (in_range_of memory_type Lawful-memory-type m h, refl)

pub global_entity_written : (g : GlobalType) → IsMinimal global_type.Encodes global_type.bytes g → IsMinimal entity_type.Encodes entity_type.bytes (entities.Global g)
unfolding entity_type
global_entity_written g h = written Lawful-entity-type.minimal (entities.Global g) (in_range_of global_type Lawful-global-type g h, refl)

pub tag_entity_written : (t : TagType) → IsMinimal tag_type.Encodes tag_type.bytes t → IsMinimal entity_type.Encodes entity_type.bytes (entities.Tag t)
unfolding entity_type
tag_entity_written t h = written Lawful-entity-type.minimal (entities.Tag t) (in_range_of tag_type Lawful-tag-type t h, refl)

-- ---- the items of sections of memories and tags

pub memory_is_lawful : IsLawful memory_type
memory_is_lawful = Lawful-memory-type

pub memory_takes : TakesBytes memory_type.Encodes
unfolding memory_type memory_flags
memory_takes = takes_bytes Lawful-memory-type refl

pub tag_is_lawful : IsLawful tag_type
tag_is_lawful = Lawful-tag-type

pub tag_takes : TakesBytes tag_type.Encodes
unfolding tag_type
tag_takes = takes_bytes Lawful-tag-type refl

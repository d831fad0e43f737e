-- Types that can be written: a u32 counts the items of each list in them (WebAssembly Core 3.0, Lists).
use Rattle.std.specs.Prelude.{ℕ, Bool, true, false, List, [], ◌∷◌, length}
use Rattle.wasm_codec.specs.formats.Combinators.{u32, items}
use Rattle.wasm_types.specs.declared.types.composite.FuncType.{FuncType}
use Rattle.wasm_types.specs.declared.types.composite.StructType.{StructType}
use Rattle.wasm_types.specs.declared.types.composite.CompositeInnerType.{CompositeInnerType}
use Rattle.wasm_types.specs.declared.types.composite.CompositeInnerType.TheVariants as inner
use Rattle.wasm_types.specs.declared.types.composite.CompositeType.{CompositeType}
use Rattle.wasm_types.specs.declared.types.recursive.SubType.{SubType}
use Rattle.wasm_types.specs.declared.types.recursive.TypeEntry.{TypeEntry}
use Rattle.wasm_types.specs.declared.types.recursive.TypeEntry.TheVariants as entries
use Rattle.wasm_codec.specs.Encoding.{IsCount, CanEncodeList}

-- A u32 counts the parameters of the function type, and one its results.
abbrev pub CountedFunc : FuncType → Type 0
CountedFunc f = IsCount (length f.params) × IsCount (length f.results)

-- A u32 counts the fields of the structure type.
abbrev pub CountedStruct : StructType → Type 0
CountedStruct s = IsCount (length s.fields)

-- A u32 counts the items of each list in the type.
abbrev pub CountedInner : CompositeInnerType → Type 0
CountedInner (inner.Func f) = CountedFunc f
CountedInner (inner.Struct s) = CountedStruct s
CountedInner (inner.Array a) = Unit {0}
CountedInner (inner.Cont c) = Unit {0}

-- A u32 counts the items of each list in the composite type.
abbrev pub CountedComposite : CompositeType → Type 0
CountedComposite c = CountedInner c.inner

-- A u32 counts the supertypes, and the items of each list in the composite type.
abbrev pub CountedSub : SubType → Type 0
CountedSub s = IsCount (length s.supertype_idxs) × CountedComposite s.composite_type

-- A u32 counts the items of each list in the entry.
abbrev pub CountedEntry : TypeEntry → Type 0
CountedEntry (entries.Sub s) = CountedSub s
CountedEntry (entries.Rec types) = CanEncodeList CountedSub types

-- The bytes before the composite type of a subtype (Recursive Types): none, if it is final and has no supertypes.
abbrev pub supertypes_bytes : Bool → List ℕ → List ℕ
supertypes_bytes true [] = []
supertypes_bytes true (index ∷ indexes) = 0x4f ∷ (items u32).bytes (index ∷ indexes)
supertypes_bytes false indexes = 0x50 ∷ (items u32).bytes indexes

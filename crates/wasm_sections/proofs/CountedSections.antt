-- Sections that some bytes encode can be written: u32s count their lists, names and bytes.
use Rattle.std.proofs.Common.{◌==◌, ℕ, Bool, true, false, ◌&&◌, if◌then◌else◌, List, [], ◌∷◌, ◌++◌, length, Option, Some, None, lit≤}
use Rattle.std.specs.Prelude.{IfSome}
use Rattle.std.specs.List.{All, AllByRecursion}
use Rattle.std.proofs.lemmas.List.Elements.{All-nil, All-cons}
use Rattle.wasm_codec.specs.Encoding.{IsCount}
use Rattle.wasm_codec.specs.formats.Bodies.{sized}
use Rattle.wasm_codec.specs.formats.Combinators.{Format, flagged, items, optional, u32}
use Rattle.wasm_types.specs.declared.types.composite.CompositeInnerType.{CompositeInnerType}
use Rattle.wasm_types.specs.declared.types.composite.CompositeInnerType.TheVariants as inner
use Rattle.wasm_types.specs.declared.types.composite.CompositeType.{CompositeType}
use Rattle.wasm_types.specs.declared.types.recursive.SubType.{SubType}
use Rattle.wasm_types.specs.declared.types.recursive.TypeEntry.{TypeEntry}
use Rattle.wasm_types.specs.declared.types.recursive.TypeEntry.TheVariants as entries
use Rattle.wasm_types.specs.declared.types.heap.RefType.{RefType}
use Rattle.wasm_types.specs.TypeCounts.{CountedComposite, CountedEntry, CountedInner, CountedSub}
use Rattle.wasm_types.specs.formats.Types.{composite_type, inner_type, recursive_type, result_type, sub_type}
use Rattle.wasm_instructions.specs.Appending.{CountedCall}
use Rattle.wasm_instructions.specs.formats.Instructions.{Instruction, instruction}
use Rattle.wasm_instructions.proofs.CallRanges.{is_counted}
use Rattle.wasm_code.specs.declared.code.CodeBody.{CodeBody}
use Rattle.wasm_code.specs.CodeCounts.{CountedBody}
use Rattle.wasm_code.specs.formats.CodeBodies.{code_body}
use Rattle.wasm_externals.specs.ClosedExpressions.{IsCountedExpr}
use Rattle.wasm_externals.specs.formats.Expressions.{end_call, expr}
use Rattle.wasm_externals.specs.formats.Names.{name}
use Rattle.wasm_sections.specs.declared.data.DataSegmentMode.{DataSegmentMode}
use Rattle.wasm_sections.specs.declared.data.DataSegmentMode.TheVariants as data_modes
use Rattle.wasm_sections.specs.declared.elements.Element.{Element}
use Rattle.wasm_sections.specs.declared.elements.ElementMode.{ElementMode}
use Rattle.wasm_sections.specs.declared.elements.ElementMode.TheVariants as modes
use Rattle.wasm_sections.specs.declared.elements.Elements.{Elements}
use Rattle.wasm_sections.specs.declared.elements.Elements.TheVariants as held
use Rattle.wasm_sections.specs.declared.globals.Global.{Global}
use Rattle.wasm_sections.specs.declared.tables.Table.{Table}
use Rattle.wasm_sections.specs.ClosedEntries.{AreCounted, IsCountedData, IsCountedDataMode, IsCountedElement, IsCountedGlobal, IsCountedMode, IsCountedTable}
use Rattle.wasm_sections.specs.formats.Elements.{element, element_form, element_segment, is_funcref}
use Rattle.wasm_sections.specs.formats.Entries.{export_entry, global_entry, import_entry, table_entry}
use Rattle.wasm_sections.specs.formats.EntryParts.{CustomParts, DataParts, ExportParts, ImportParts}
use Rattle.wasm_sections.specs.formats.Sections.{custom_body}
use Rattle.wasm_sections.specs.formats.Segments.{data_form, data_segment}

all_of : {A : Type 0} (P Q : A → Type 0) → ((x : A) → P x → Q x) → (xs : List A) → AllByRecursion P xs → All Q xs
all_of P Q each [] fits = All-nil Q
all_of P Q each (x ∷ xs) fits = All-cons Q x xs (each x fits.0) (all_of P Q each xs fits.1)

-- ---- names and expressions

name_counted : (n : List ℕ) → name.InRange n → IsCount (length n)
unfolding name
name_counted n fits = fits.1

before_end : (calls : List Instruction) → AllByRecursion instruction.InRange (calls ++ end_call ∷ []) → IsCountedExpr calls
before_end [] fits = tt
before_end (call ∷ calls) fits = (is_counted call fits.0, before_end calls fits.1)

expr_counted : (calls : List Instruction) → expr.InRange calls → IsCountedExpr calls
unfolding expr
expr_counted calls fits = before_end calls fits.0

-- ---- types

inner_counted : (c : CompositeInnerType) → inner_type.InRange c → CountedInner c
unfolding inner_type result_type
inner_counted (inner.Func f) fits = (fits.0.0.0, fits.0.1.0)
inner_counted (inner.Struct s) fits = fits.0.0
inner_counted (inner.Array a) fits = tt
inner_counted (inner.Cont c) fits = tt

unshared : (shared : Bool) (F : Format CompositeInnerType) (describes descriptor : Option ℕ) (c : CompositeInnerType) → (flagged 0x65 (optional 0x4c u32 (optional 0x4d u32 F))).InRange (shared, (describes, (descriptor, c))) → (optional 0x4c u32 (optional 0x4d u32 F)).InRange (describes, (descriptor, c))
unshared true F describes descriptor c fits = fits.0
unshared false F describes descriptor c fits = fits.0

not_first : {A : Type 0} (n : ℕ) (F : Format A) (o : Option ℕ) (a : A) → (optional n u32 F).InRange (o, a) → F.InRange a
not_first n F (Some index) a fits = fits.0.1
not_first n F None a fits = fits.0

composite_counted : (c : CompositeType) → composite_type.InRange c → CountedComposite c
unfolding composite_type
composite_counted c fits =
    let first = unshared c.shared inner_type c.describes c.descriptor c.inner fits.0 in
    inner_counted c.inner (not_first 0x4d inner_type c.descriptor c.inner (not_first 0x4c (optional 0x4d u32 inner_type) c.describes (c.descriptor, c.inner) first))

sub_counted : (s : SubType) → sub_type.InRange s → CountedSub s
unfolding sub_type
sub_counted s fits = by_form s.is_final s.supertype_idxs fits where
  by_form : (is_final : Bool) (supertypes : List ℕ) → sub_type.InRange (record { is_final = is_final; supertype_idxs = supertypes; composite_type = s.composite_type }) → IsCount (length supertypes) × CountedComposite s.composite_type
  by_form false supertypes f = (f.0.0.0, composite_counted s.composite_type f.0.1)
  by_form true (x ∷ supertypes) f = (f.0.0.0, composite_counted s.composite_type f.0.1)
  by_form true [] f = (lit≤ tt, composite_counted s.composite_type f.0)

pub entry_counted : (e : TypeEntry) → recursive_type.InRange e → CountedEntry e
unfolding recursive_type
entry_counted (entries.Rec types) fits = (fits.0.0, all_of sub_type.InRange CountedSub sub_counted types fits.0.1)
entry_counted (entries.Sub s) fits = sub_counted s fits.0

-- ---- other items

pub import_counted : (i : ImportParts) → import_entry.InRange i → IsCount (length i.module_name) × IsCount (length i.field)
unfolding import_entry
import_counted i fits = (name_counted i.module_name fits.0.0, name_counted i.field fits.0.1.0)

pub export_counted : (e : ExportParts) → export_entry.InRange e → IsCount (length e.name)
unfolding export_entry
export_counted e fits = name_counted e.name fits.0.0

pub table_counted : (t : Table) → table_entry.InRange t → IsCountedTable t
unfolding table_entry
table_counted t fits = by_init t.init fits where
  by_init : (init : Option (List Instruction)) → table_entry.InRange (record { ty = t.ty; init = init }) → IfSome init IsCountedExpr
  by_init (Some calls) f = expr_counted calls f.0.1
  by_init None f = tt

pub global_counted : (g : Global) → global_entry.InRange g → IsCountedGlobal g
unfolding global_entry
global_counted g fits = expr_counted g.init fits.0.1

all_exprs : (es : List (List Instruction)) → (items expr).InRange es → IsCount (length es) × All IsCountedExpr es
all_exprs es fits = (fits.0, all_of expr.InRange IsCountedExpr expr_counted es fits.1)

-- an active segment of functions, in the form for table 0 or the other
active_functions : (b : Bool) (table : ℕ) (offset : List Instruction) (fs : List ℕ) → (element_form (if b then 0 else 2)).InRange (element (modes.Active table offset) (held.Functions fs)) → IsCountedExpr offset × IsCount (length fs)
active_functions true table offset fs fits = (expr_counted offset fits.0.0, fits.0.1.0)
active_functions false table offset fs fits = (expr_counted offset fits.0.1.0, fits.0.1.1.0)

active_expressions : (b : Bool) (table : ℕ) (offset : List Instruction) (ty : RefType) (es : List (List Instruction)) → (element_form (if b then 4 else 6)).InRange (element (modes.Active table offset) (held.Expressions ty es)) → IsCountedExpr offset × (IsCount (length es) × All IsCountedExpr es)
active_expressions true table offset ty es fits = (expr_counted offset fits.0.0, all_exprs es fits.0.1)
active_expressions false table offset ty es fits = (expr_counted offset fits.0.1.0, all_exprs es fits.0.1.1.1)

pub element_counted : (e : Element) → element_segment.InRange e → IsCountedElement e
unfolding element_segment
element_counted e fits = by_parts e.mode e.elements fits where
  by_parts : (mode : ElementMode) (elements : Elements) → element_segment.InRange (element mode elements) → IsCountedMode mode × AreCounted elements
  by_parts modes.Passive (held.Functions fs) f = (tt, f.0.0)
  by_parts (modes.Active table offset) (held.Functions fs) f = active_functions (table == 0) table offset fs f
  by_parts modes.Declared (held.Functions fs) f = (tt, f.0.0)
  by_parts modes.Passive (held.Expressions ty es) f = (tt, all_exprs es f.0.1)
  by_parts (modes.Active table offset) (held.Expressions ty es) f = active_expressions (table == 0 && is_funcref ty) table offset ty es f
  by_parts modes.Declared (held.Expressions ty es) f = (tt, all_exprs es f.0.1)

active_data_counted : (b : Bool) (memory : ℕ) (offset : List Instruction) (bytes : List ℕ) → (data_form (if b then 0 else 2)).InRange (record { mode = data_modes.Active memory offset; data_bytes = bytes }) → IsCountedExpr offset × IsCount (length bytes)
active_data_counted true memory offset bytes fits = (expr_counted offset fits.0.0, fits.0.1.1)
active_data_counted false memory offset bytes fits = (expr_counted offset fits.0.1.0, fits.0.1.1.1)

pub data_counted : (d : DataParts) → data_segment.InRange d → IsCountedData d
unfolding data_segment
data_counted d fits = by_mode d.mode fits where
  by_mode : (mode : DataSegmentMode) → data_segment.InRange (record { mode = mode; data_bytes = d.data_bytes }) → IsCountedDataMode mode × IsCount (length d.data_bytes)
  by_mode (data_modes.Active memory offset) f = active_data_counted (memory == 0) memory offset d.data_bytes f
  by_mode data_modes.Passive f = (tt, f.0.1)

all_calls : (calls : List Instruction) → AllByRecursion instruction.InRange calls → AllByRecursion CountedCall calls
all_calls [] fits = tt
all_calls (call ∷ calls) fits = (is_counted call fits.0, all_calls calls fits.1)

pub body_counted : (b : CodeBody) → code_body.InRange b → CountedBody b
unfolding code_body
body_counted b fits = (fits.0.0.0.0, all_calls b.calls fits.0.0.1, fits.0.1)

-- the body of a custom section
pub custom_counted : (c : CustomParts) → (sized custom_body).InRange c → IsCount (length c.name) × IsCount (length (custom_body.bytes c))
unfolding custom_body
custom_counted c fits = (name_counted c.name fits.0.0.0, fits.1)

-- The laws of entries of sections, and what is written of them.
use Rattle.std.proofs.Common.{Some, refl, lit≤, ◌≡◌, ℕ, ◌^◌, ◌<◌, true, List, [], ◌∷◌, ◌++◌, Option, None, sym, subst}
use Rattle.std.specs.Prelude.{is_some}
use Rattle.wasm_codec.specs.formats.Grammar.{TakesBytes}
use Rattle.wasm_codec.specs.Lawful.{IsLawful}
use Rattle.wasm_codec.specs.formats.Combinators.{u32}
use Rattle.wasm_codec.specs.Leb128.{unsigned_leb128}
use Rattle.wasm_codec.specs.formats.Numbers.{EncodesU32}
use Rattle.wasm_codec.specs.Encoding.{IsMinimal}
use Rattle.wasm_codec.proofs.FormatLaws.{Every-after, Every-made, Lawful-after, Lawful-or-after, Lawful-or-else, Lawful-made, Lawful-both, Lawful-u32, takes_bytes}
use Rattle.wasm_codec.proofs.NumberLaws.{written}
use Rattle.wasm_codec.proofs.AppendLaws.{three, two}
use Rattle.wasm_types.specs.formats.Types.{ref_type, val_type, abstract_type}
use Rattle.wasm_lists.proofs.WrittenLists.{in_range_of}
use Rattle.wasm_instructions.specs.formats.Instructions.{Instruction}
use Rattle.wasm_externals.specs.formats.Names.{name}
use Rattle.wasm_externals.specs.formats.Externals.{table_type, global_type, export_kind_byte, export_kind, entity_type}
use Rattle.wasm_sections.specs.formats.Entries.{export_of, export_entry, import_of, import_entry, filled_of, filled_part, unfilled, table_entry, global_of, global_entry}
use Rattle.wasm_externals.specs.declared.types.ExportKind.{ExportKind}
use Rattle.wasm_sections.specs.formats.EntryParts.{ExportParts, ImportParts}
use Rattle.wasm_externals.specs.ClosedExpressions.{IsClosed}
use Rattle.wasm_sections.specs.ClosedEntries.{IsClosedGlobal}
use Rattle.wasm_sections.specs.declared.globals.Global.{Global}
use Rattle.wasm_sections.specs.declared.tables.Table.{Table}
use Rattle.wasm_externals.specs.declared.limits.TableType.{TableType}
use Rattle.wasm_externals.specs.formats.Expressions.{expr}
use Rattle.wasm_externals.specs.declared.types.ExportKind.TheVariants as kinds
use Rattle.wasm_externals.proofs.NameLaws.{name_is_lawful, in_name}
use Rattle.wasm_externals.proofs.ExternalLaws.{Lawful-entity-type, Lawful-export-kind, Lawful-table-type, Lawful-global-type}
use Rattle.wasm_externals.proofs.ExpressionLaws.{expr_is_lawful, in_expr}

pub export_is_lawful : IsLawful export_entry
unfolding export_entry
export_is_lawful = Lawful-made export_of (λ e. Some (e.name, (e.kind, e.index))) (λ p. refl) (Lawful-both name_is_lawful (Lawful-both Lawful-export-kind Lawful-u32))

pub export_takes : TakesBytes export_entry.Encodes
unfolding export_entry name
export_takes = takes_bytes export_is_lawful refl

pub import_is_lawful : IsLawful import_entry
unfolding import_entry
import_is_lawful = Lawful-made import_of (λ i. Some (i.module_name, (i.field, i.ty))) (λ p. refl) (Lawful-both name_is_lawful (Lawful-both name_is_lawful Lawful-entity-type))

pub import_takes : TakesBytes import_entry.Encodes
unfolding import_entry name
import_takes = takes_bytes import_is_lawful refl

pub table_is_lawful : IsLawful table_entry
unfolding table_entry table_type ref_type abstract_type
table_is_lawful =
    (Lawful-or-after (λ t. is_some t.init) 0x40 (lit≤ tt) refl (Every-after (Every-made (λ p. refl))) (Every-made (λ ty. refl))
    (Lawful-after 0x00 (lit≤ tt) (Lawful-made filled_of filled_part (λ p. refl) (Lawful-both Lawful-table-type expr_is_lawful)))
    (Lawful-or-else refl (Lawful-made unfilled (λ t. Some t.ty) (λ ty. refl) Lawful-table-type))).lawful

pub table_takes : TakesBytes table_entry.Encodes
unfolding table_entry table_type ref_type abstract_type
table_takes = takes_bytes table_is_lawful refl

pub global_is_lawful : IsLawful global_entry
unfolding global_entry
global_is_lawful = Lawful-made global_of (λ g. Some (g.ty, g.init)) (λ p. refl) (Lawful-both Lawful-global-type expr_is_lawful)

pub global_takes : TakesBytes global_entry.Encodes
unfolding global_entry global_type val_type ref_type abstract_type
global_takes = takes_bytes global_is_lawful refl

-- ---- writing

kind_there : (kind : ExportKind) → is_some (export_kind_byte kind) ≡ true
kind_there kinds.Func = refl
kind_there kinds.Table = refl
kind_there kinds.Memory = refl
kind_there kinds.Global = refl
kind_there kinds.Tag = refl

export_there : (e : ExportParts) → name.InRange e.name → e.index < 2 ^ 32 → export_entry.InRange e
unfolding export_entry export_kind
export_there e fits small = ((fits, (kind_there e.kind, small)), refl)

pub export_written : (e : ExportParts) → IsMinimal name.Encodes name.bytes e.name → IsMinimal EncodesU32 unsigned_leb128 e.index → IsMinimal export_entry.Encodes export_entry.bytes e
export_written e h i = written export_is_lawful.minimal e (export_there e (in_name e.name h) (in_range_of u32 Lawful-u32 e.index i))

-- an export was appended part by part
pub export_appended : (e : ExportParts) (old named kinded new : List ℕ) (byte : ℕ) → named ≡ old ++ name.bytes e.name → export_kind.bytes e.kind ≡ byte ∷ [] → kinded ≡ named ++ byte ∷ [] → new ≡ kinded ++ unsigned_leb128 e.index → new ≡ old ++ export_entry.bytes e
unfolding export_entry
export_appended e old named kinded new byte p k q r = rw k (three old (name.bytes e.name) (byte ∷ []) (unsigned_leb128 e.index) named kinded new p q r)

import_there : (i : ImportParts) → name.InRange i.module_name → name.InRange i.field → entity_type.InRange i.ty → import_entry.InRange i
unfolding import_entry
import_there i first second ty = ((first, (second, ty)), refl)

pub import_written : (i : ImportParts) → IsMinimal name.Encodes name.bytes i.module_name → IsMinimal name.Encodes name.bytes i.field → IsMinimal entity_type.Encodes entity_type.bytes i.ty → IsMinimal import_entry.Encodes import_entry.bytes i
import_written i first second ty = written import_is_lawful.minimal i (import_there i (in_name i.module_name first) (in_name i.field second) (in_range_of entity_type Lawful-entity-type i.ty ty))

pub import_appended : (i : ImportParts) (old one two new : List ℕ) → one ≡ old ++ name.bytes i.module_name → two ≡ one ++ name.bytes i.field → new ≡ two ++ entity_type.bytes i.ty → new ≡ old ++ import_entry.bytes i
unfolding import_entry
import_appended i old one two new p q r = three old (name.bytes i.module_name) (name.bytes i.field) (entity_type.bytes i.ty) one two new p q r

-- ---- globals and tables

global_there : (g : Global) → global_type.InRange g.ty → expr.InRange g.init → global_entry.InRange g
unfolding global_entry
global_there g ty init = ((ty, init), refl)

pub global_entry_written : (g : Global) → IsMinimal global_type.Encodes global_type.bytes g.ty → (IsClosed g.init → IsMinimal expr.Encodes expr.bytes g.init) → IsClosedGlobal g → IsMinimal global_entry.Encodes global_entry.bytes g
global_entry_written g ty init closed = written global_is_lawful.minimal g (global_there g (in_range_of global_type Lawful-global-type g.ty ty) (in_expr g.init (init closed)))

unfilled_there : (ty : TableType) → table_type.InRange ty → table_entry.InRange (unfilled ty)
unfolding table_entry
unfilled_there ty fits = (fits, refl)

filled_there : (ty : TableType) (init : List Instruction) → table_type.InRange ty → expr.InRange init → table_entry.InRange (filled_of (ty, init))
unfolding table_entry
filled_there ty init fits made = ((fits, made), refl)

pub unfilled_appended : (t : Table) (old new : List ℕ) → t.init ≡ None → new ≡ old ++ table_type.bytes t.ty → new ≡ old ++ table_entry.bytes t
unfolding table_entry
unfilled_appended t old new is p = rw is p

pub unfilled_written : (t : Table) → t.init ≡ None → IsMinimal table_type.Encodes table_type.bytes t.ty → IsMinimal table_entry.Encodes table_entry.bytes t
unfilled_written t is h = subst (λ (o : Option (List Instruction)). IsMinimal table_entry.Encodes table_entry.bytes (record { ty = t.ty; init = o })) (sym is)
    (written table_is_lawful.minimal (unfilled t.ty) (unfilled_there t.ty (in_range_of table_type Lawful-table-type t.ty h)))

pub filled_written : (ty : TableType) (init : List Instruction) → IsMinimal table_type.Encodes table_type.bytes ty → (IsClosed init → IsMinimal expr.Encodes expr.bytes init) → IsClosed init → IsMinimal table_entry.Encodes table_entry.bytes (filled_of (ty, init))
filled_written ty init least made closed = written table_is_lawful.minimal (filled_of (ty, init)) (filled_there ty init (in_range_of table_type Lawful-table-type ty least) (in_expr init (made closed)))

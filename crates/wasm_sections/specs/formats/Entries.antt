-- The entries of sections that are lists, each under the standard's production (WebAssembly Core 3.0, Modules).
use Rattle.std.specs.Prelude.{ℕ, is_some, List, Option, Some, None}
use Rattle.wasm_instructions.specs.formats.Instructions.{Instruction}
use Rattle.wasm_codec.specs.formats.Combinators.{Format, ◌▷◌, ◌⊗◌, made, any_of, or_else, after, u32}
use Rattle.wasm_externals.specs.declared.types.ExportKind.{ExportKind}
use Rattle.wasm_externals.specs.declared.types.EntityType.{EntityType}
use Rattle.wasm_externals.specs.declared.types.GlobalType.{GlobalType}
use Rattle.wasm_externals.specs.declared.limits.TableType.{TableType}
use Rattle.wasm_sections.specs.declared.globals.Global.{Global}
use Rattle.wasm_sections.specs.declared.tables.Table.{Table}
use Rattle.wasm_sections.specs.formats.EntryParts.{ExportParts, ImportParts}
use Rattle.wasm_externals.specs.formats.Names.{name}
use Rattle.wasm_externals.specs.formats.Externals.{export_kind, entity_type, global_type, table_type}
use Rattle.wasm_externals.specs.formats.Expressions.{expr}

-- The export with these parts.
abbrev pub export_of : List ℕ × (ExportKind × ℕ) → ExportParts
export_of p = record { name = p.0; kind = p.1.0; index = p.1.1 }

-- An export.
-- export ::= nm:name xx:externidx ⇒ export nm xx
unfoldable pub export_entry : Format ExportParts
export_entry = made export_of (λ e. Some (e.name, (e.kind, e.index))) (name ⊗ (export_kind ⊗ u32))

-- The import with these parts.
abbrev pub import_of : List ℕ × (List ℕ × EntityType) → ImportParts
import_of p = record { module_name = p.0; field = p.1.0; ty = p.1.1 }

-- An import.
-- import ::= nm1:name nm2:name xt:externtype ⇒ import nm1 nm2 xt
unfoldable pub import_entry : Format ImportParts
import_entry = made import_of (λ i. Some (i.module_name, (i.field, i.ty))) (name ⊗ (name ⊗ entity_type))

-- The table of this type, with this expression.
abbrev pub filled_of : TableType × List Instruction → Table
filled_of p = record { ty = p.0; init = Some p.1 }

abbrev pub filled_part : Table → Option (TableType × List Instruction)
filled_part t = elim t.init [ Some init ↦ Some (t.ty, init) | None ↦ None ]

-- The table of this type, without an expression.
abbrev pub unfilled : TableType → Table
unfilled ty = record { ty = ty; init = None }

-- A table.
-- table ::= tt:tabletype ⇒ table tt (ref.null ht) (if tt = at lim (ref null? ht))
-- | 0x40 0x00 tt:tabletype e:expr ⇒ table tt e
-- Here a table without an expression and one whose expression is null are different values.
unfoldable pub table_entry : Format Table
table_entry = any_of (after (λ t. is_some t.init) 0x40 (0x00 ▷ made filled_of filled_part (table_type ⊗ expr)) (or_else (made unfilled (λ t. Some t.ty) table_type)))

-- The global with these parts.
abbrev pub global_of : GlobalType × List Instruction → Global
global_of p = record { ty = p.0; init = p.1 }

-- A global.
-- global ::= gt:globaltype e:expr ⇒ global gt e
unfoldable pub global_entry : Format Global
global_entry = made global_of (λ g. Some (g.ty, g.init)) (global_type ⊗ expr)

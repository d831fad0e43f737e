-- Entries of sections whose expressions can be written, and those whose expressions close their blocks (WebAssembly
-- Core 3.0, Expressions).
use Rattle.std.specs.Prelude.{length, IfSome}
use Rattle.std.specs.List.{All}
use Rattle.wasm_codec.specs.Encoding.{IsCount}
use Rattle.wasm_sections.specs.declared.data.DataSegmentMode.{DataSegmentMode}
use Rattle.wasm_sections.specs.declared.data.DataSegmentMode.TheVariants as data_modes
use Rattle.wasm_sections.specs.declared.elements.ElementMode.{ElementMode}
use Rattle.wasm_sections.specs.declared.elements.ElementMode.TheVariants as modes
use Rattle.wasm_sections.specs.declared.elements.Elements.{Elements}
use Rattle.wasm_sections.specs.declared.elements.Elements.TheVariants as held
use Rattle.wasm_sections.specs.declared.elements.Element.{Element}
use Rattle.wasm_sections.specs.formats.EntryParts.{DataParts}
use Rattle.wasm_sections.specs.declared.globals.Global.{Global}
use Rattle.wasm_sections.specs.declared.tables.Table.{Table}
use Rattle.wasm_externals.specs.ClosedExpressions.{IsClosed, IsCountedExpr}

-- The global's expression closes its blocks.
abbrev pub IsClosedGlobal : Global → Type 0
IsClosedGlobal g = IsClosed g.init

-- A u32 counts the items of each list in the global's expression.
abbrev pub IsCountedGlobal : Global → Type 0
IsCountedGlobal g = IsCountedExpr g.init

-- The table's expression, if there is one, closes its blocks.
abbrev pub IsClosedTable : Table → Type 0
IsClosedTable t = IfSome t.init IsClosed

-- A u32 counts the items of each list in the table's expression.
abbrev pub IsCountedTable : Table → Type 0
IsCountedTable t = IfSome t.init IsCountedExpr

-- The offset of the data segment, if it is active, closes its blocks.
abbrev pub IsClosedData : DataSegmentMode → Type 0
IsClosedData data_modes.Passive = Unit
IsClosedData (data_modes.Active memory offset) = IsClosed offset

-- A u32 counts the items of each list in the data segment's offset.
abbrev pub IsCountedDataMode : DataSegmentMode → Type 0
IsCountedDataMode data_modes.Passive = Unit
IsCountedDataMode (data_modes.Active memory offset) = IsCountedExpr offset

-- A u32 counts the bytes of the data segment, and the items of each list in its offset.
abbrev pub IsCountedData : DataParts → Type 0
IsCountedData d = IsCountedDataMode d.mode × IsCount (length d.data_bytes)

-- The offset of the element segment, if it is active, closes its blocks.
abbrev pub IsClosedMode : ElementMode → Type 0
IsClosedMode (modes.Active table offset) = IsClosed offset
IsClosedMode mode = Unit

-- A u32 counts the items of each list in the element segment's offset.
abbrev pub IsCountedMode : ElementMode → Type 0
IsCountedMode (modes.Active table offset) = IsCountedExpr offset
IsCountedMode mode = Unit

-- Each expression among the elements closes its blocks.
abbrev pub AreClosed : Elements → Type 0
AreClosed (held.Functions fs) = Unit
AreClosed (held.Expressions ty es) = All IsClosed es

-- A u32 counts the elements, and the items of each list in their expressions.
abbrev pub AreCounted : Elements → Type 0
AreCounted (held.Functions fs) = IsCount (length fs)
AreCounted (held.Expressions ty es) = IsCount (length es) × All IsCountedExpr es

-- Each expression of the element segment closes its blocks.
abbrev pub IsClosedElement : Element → Type 0
IsClosedElement e = IsClosedMode e.mode × AreClosed e.elements

-- A u32 counts the elements, and the items of each list in the segment's expressions.
abbrev pub IsCountedElement : Element → Type 0
IsCountedElement e = IsCountedMode e.mode × AreCounted e.elements

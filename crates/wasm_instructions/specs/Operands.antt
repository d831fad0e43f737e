-- Operands whose numbers are in the ranges of their widths.
pub use Rattle.wasm_types.specs.TypeRanges.{IsU32, HeapTypeFits, ValTypeFits}
use Rattle.wasm_instructions.specs.declared.operands.control.BlockType.{BlockType}
use Rattle.wasm_instructions.specs.declared.operands.control.BlockType.TheVariants as blocks
use Rattle.wasm_instructions.specs.declared.operands.control.Catch.{Catch}
use Rattle.wasm_instructions.specs.declared.operands.control.Catch.TheVariants as catches
use Rattle.wasm_instructions.specs.declared.operands.control.Handle.{Handle}
use Rattle.wasm_instructions.specs.declared.operands.control.Handle.TheVariants as handles

-- The index in the block type fits in a u32.
abbrev pub BlockTypeFits : BlockType → Type 0
BlockTypeFits blocks.Empty = Unit {0}
BlockTypeFits (blocks.Result ty) = ValTypeFits ty
BlockTypeFits (blocks.FunctionType index) = IsU32 index

-- The tag and the label of the catch clause fit in a u32.
abbrev pub CatchFits : Catch → Type 0
CatchFits (catches.One tag label) = IsU32 tag × IsU32 label
CatchFits (catches.OneRef tag label) = IsU32 tag × IsU32 label
CatchFits (catches.All label) = IsU32 label
CatchFits (catches.AllRef label) = IsU32 label

-- The tag and the label of the handler fit in a u32.
abbrev pub HandleFits : Handle → Type 0
HandleFits (handles.OnLabel tag label) = IsU32 tag × IsU32 label
HandleFits (handles.OnSwitch tag) = IsU32 tag

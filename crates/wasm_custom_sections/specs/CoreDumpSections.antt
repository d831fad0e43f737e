-- Core dump sections that are written.
use Rattle.std.specs.Prelude.{ℕ, List, ◌∷◌, ◌++◌}
use Rattle.wasm_codec.specs.formats.Combinators.{minimal_only}
use Rattle.wasm_externals.specs.formats.Names.{name as name_format}
use Rattle.wasm_lists.specs.EncodedLists.{EncodedItems, body_bytes}
use Rattle.wasm_sections.specs.ListSections.{StandsForItems}
use Rattle.wasm_custom_sections.specs.declared.core_stacks.CoreDumpStackFrame.{CoreDumpStackFrame}
use Rattle.wasm_custom_sections.specs.formats.CoreDumps.{core_name}
use Rattle.wasm_custom_sections.specs.formats.CoreStacks.{core_frame, core_stack, stack_of}

-- These are the minimal contents of a section `core` of the process of this name.
abbrev pub HoldsProcess : List ℕ → Type 0
HoldsProcess text = (minimal_only core_name).Encodes (core_name.bytes text) text

-- The name of a thread, and the frames of its stack, which are encoded.
pub record BuiltStack : Type 0 where
  pub name : List ℕ
  pub frames : EncodedItems

-- The contents of a section `corestack` with this name and these frames.
abbrev pub stack_bytes : BuiltStack → List ℕ
stack_bytes built = 0 ∷ (name_format.bytes built.name ++ body_bytes built.frames)

-- The contents are the minimal encoding of the name and the frames that the section stands for.
abbrev pub HoldsStack : BuiltStack → Type 0
HoldsStack built = (frames : List CoreDumpStackFrame) → StandsForItems core_frame built.frames frames → (minimal_only core_stack).Encodes (stack_bytes built) (stack_of (built.name, frames))

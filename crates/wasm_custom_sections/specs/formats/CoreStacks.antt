-- The contents of core dump sections that hold the stack of a thread (tool conventions, Core Dumps).
use Rattle.std.specs.Prelude.{ℕ, ℤ, List, map, Option, Some, None}
use Rattle.wasm_codec.specs.formats.Combinators.{Format, ◌▷◌, ◌⊗◌, made, nothing, any_of, no_other, tagged, items, u32, s32, s64, little_endian}
use Rattle.wasm_externals.specs.formats.Names.{name}
use Rattle.wasm_instructions.specs.formats.Operands.{ieee32, ieee64}
use Rattle.wasm_custom_sections.specs.declared.core_stacks.CoreDumpStack.{CoreDumpStack}
use Rattle.wasm_custom_sections.specs.declared.core_stacks.CoreDumpStackFrame.{CoreDumpStackFrame}
use Rattle.wasm_custom_sections.specs.declared.core_values.CoreDumpValue.{CoreDumpValue}
use Rattle.wasm_custom_sections.specs.declared.core_values.CoreDumpValue.TheVariants as values

-- ---- values

-- The byte that a value begins with.
abbrev pub value_byte : CoreDumpValue → ℕ
value_byte values.Missing = 0x01
value_byte (values.I32 number) = 0x7f
value_byte (values.I64 number) = 0x7e
value_byte (values.F32 number) = 0x7d
value_byte (values.F64 number) = 0x7c

abbrev pub missing_part : CoreDumpValue → Option (Unit {0})
missing_part values.Missing = Some tt
missing_part v = None

abbrev pub i32_part : CoreDumpValue → Option ℤ
i32_part (values.I32 number) = Some number
i32_part v = None

abbrev pub i64_part : CoreDumpValue → Option ℤ
i64_part (values.I64 number) = Some number
i64_part v = None

abbrev pub f32_part : CoreDumpValue → Option ℕ
f32_part (values.F32 number) = Some number.bits
f32_part v = None

abbrev pub f64_part : CoreDumpValue → Option ℕ
f64_part (values.F64 number) = Some number.bits
f64_part v = None

-- A value of a local or on the stack; the values of floating-point numbers are their bits.
-- value ::= 0x01 => missing | 0x7F n:s32 => i32 n | 0x7E n:s64 => i64 n | 0x7D z:f32 => f32 z | 0x7C z:f64 => f64 z
unfoldable pub core_value : Format CoreDumpValue
core_value = any_of
    (tagged value_byte 0x01 (made (λ u. values.Missing) missing_part (nothing tt))
    (tagged value_byte 0x7f (made values.I32 i32_part s32)
    (tagged value_byte 0x7e (made values.I64 i64_part s64)
    (tagged value_byte 0x7d (made (λ bits. values.F32 (ieee32 bits)) f32_part (little_endian 4))
    (tagged value_byte 0x7c (made (λ bits. values.F64 (ieee64 bits)) f64_part (little_endian 8))
    no_other)))))

-- ---- frames

-- The frame with these parts.
abbrev pub frame_of : ℕ × (ℕ × (ℕ × (List CoreDumpValue × List CoreDumpValue))) → CoreDumpStackFrame
frame_of p = record { instance_index = p.0; function_index = p.1.0; code_offset = p.1.1.0; locals = p.1.1.1.0; stack = p.1.1.1.1 }

-- A frame.
-- frame ::= 0x0 instanceidx:u32 funcidx:u32 codeoffset:u32 locals:list(value) stack:list(value)
unfoldable pub core_frame : Format CoreDumpStackFrame
core_frame = made frame_of (λ f. Some (f.instance_index, (f.function_index, (f.code_offset, (f.locals, f.stack)))))
    (0x00 ▷ (u32 ⊗ (u32 ⊗ (u32 ⊗ (items core_value ⊗ items core_value)))))

-- ---- stacks

-- The parts of a stack, without the borrow from the input.
pub record StackParts : Type 0 where
  pub name : List ℕ
  pub frames : List CoreDumpStackFrame

-- The parts of a stack that borrows from the input.
abbrev pub stack_parts : CoreDumpStack → StackParts
stack_parts s = record { name = s.name.now; frames = s.frames }

-- The parts of each stack.
abbrev pub all_stack_parts : List CoreDumpStack → List StackParts
all_stack_parts = map stack_parts

-- The stack with these parts.
abbrev pub stack_of : List ℕ × List CoreDumpStackFrame → StackParts
stack_of p = record { name = p.0; frames = p.1 }

-- The stack of a thread, which is all of the contents of its section.
-- corestack ::= thread-info list(frame), thread-info ::= 0x0 thread-name:name
unfoldable pub core_stack : Format StackParts
core_stack = made stack_of (λ s. Some (s.name, s.frames)) (0x00 ▷ (name ⊗ items core_frame))

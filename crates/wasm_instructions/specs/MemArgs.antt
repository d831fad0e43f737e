-- Memory arguments that can be written (WebAssembly Core 3.0, Memory Instructions).
use Rattle.std.specs.Prelude.{◌<◌, Option, Some, None, nat_lt, if◌then◌else◌}
use Rattle.wasm_instructions.specs.declared.operands.memory.MemArg.{MemArg}
use Rattle.wasm_codec.specs.declared.encode.EncodeError.{EncodeError}
use Rattle.wasm_codec.specs.declared.encode.EncodeError.TheVariants.{Alignment}

-- The alignment is below 64.
abbrev pub HasAlignment : MemArg → Type 0
HasAlignment arg = arg.align < 64

-- `Alignment`, before anything is appended, if the alignment is 64 or more.
abbrev pub misaligned_at_once : MemArg → Option EncodeError
misaligned_at_once arg = if nat_lt arg.align 64 then None else Some Alignment

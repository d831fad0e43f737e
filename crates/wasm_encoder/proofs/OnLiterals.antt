-- The definitions that a caller unfolds to compute the bytes of literal calls and numbers.
use Rattle.std.specs.Prelude.{⊤}
use Rattle.wasm_codec.specs.Leb128.{unsigned_leb128, signed_leb128, digits_of}
use Rattle.wasm_types.specs.formats.Types.{abstract_type, heap_type, ref_type, val_type}
use Rattle.wasm_instructions.specs.formats.Operands.{block_type, mem_arg}
use Rattle.wasm_instructions.specs.formats.Instructions.{opcode, operands_format, instruction}

unfoldable pub wasm_encoder_on_literals : ⊤
unfolding unsigned_leb128 signed_leb128 digits_of abstract_type heap_type ref_type val_type block_type mem_arg opcode operands_format instruction
wasm_encoder_on_literals = tt

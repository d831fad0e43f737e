-- Formats of instructions and their parts of which no encoding is a proper prefix of another.
use Rattle.wasm_codec.specs.Lawful.{IsPrefixFree}
use Rattle.wasm_codec.specs.formats.Combinators.{u32, u64, s32, s64, index}
use Rattle.wasm_types.specs.formats.Types.{heap_type, ref_type, val_type}
use Rattle.wasm_instructions.specs.declared.table.opcode.Kind.{Kind}
use Rattle.wasm_instructions.specs.formats.Operands.{block_type}
use Rattle.wasm_instructions.specs.formats.Instructions.{operands_format, instruction}

-- No encoding of an instruction or of one of its parts is a proper prefix of another of its kind.
pub record InstructionsArePrefixFree : Type 0 where
  pub u32 : IsPrefixFree u32.Encodes
  pub u64 : IsPrefixFree u64.Encodes
  pub s32 : IsPrefixFree s32.Encodes
  pub s64 : IsPrefixFree s64.Encodes
  pub index : IsPrefixFree index.Encodes
  pub heap_types : IsPrefixFree heap_type.Encodes
  pub ref_types : IsPrefixFree ref_type.Encodes
  pub val_types : IsPrefixFree val_type.Encodes
  pub block_types : IsPrefixFree block_type.Encodes
  pub operands : (kind : Kind) → IsPrefixFree (operands_format kind).Encodes
  pub calls : IsPrefixFree instruction.Encodes

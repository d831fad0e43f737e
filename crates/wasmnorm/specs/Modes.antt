-- The modes of `wasmnorm`: how it reads its input.
use Rattle.std.specs.Prelude.{ℕ, List}
use Rattle.wasm_codec.specs.Outcomes.{EncodesSome, IsNormalForm}
use Rattle.wasm_instructions.specs.formats.Instructions.{Instructions, instructions_bytes}
use Rattle.wasmnorm.specs.declared.modes.Mode.{Mode}
use Rattle.wasmnorm.specs.declared.modes.Mode.TheVariants.{Calls, Types, Module}
use Rattle.wasm_types.specs.formats.Types.{IsTypeBodyPrefix, type_body}
use Rattle.wasm_code.specs.formats.Modules.{typed_module}
use Rattle.wasm_code.specs.Modules.{IsTypedModulePrefix}

-- The input encodes a list of calls, type entries or a typed module, as the mode asks.
abbrev pub IsEncoded : Mode → List ℕ → Type 0
IsEncoded Calls bytes = EncodesSome Instructions bytes
IsEncoded Types bytes = EncodesSome type_body.Encodes bytes
IsEncoded Module bytes = EncodesSome typed_module.Encodes bytes

-- In its mode, the prefix is a list of calls, empty, a count and at most as many entries, or the header and sections.
abbrev pub IsWholePrefix : Mode → List ℕ → Type 0
IsWholePrefix Calls prefix = EncodesSome Instructions prefix
IsWholePrefix Types prefix = IsTypeBodyPrefix prefix
IsWholePrefix Module prefix = IsTypedModulePrefix prefix

-- The result is the minimal encoding of what the input encodes in the mode.
abbrev pub NormalForm : Mode → List ℕ → List ℕ → Type 0
NormalForm Calls input encoding = IsNormalForm Instructions instructions_bytes input encoding
NormalForm Types input encoding = IsNormalForm type_body.Encodes type_body.bytes input encoding
NormalForm Module input encoding = IsNormalForm typed_module.Encodes typed_module.bytes input encoding

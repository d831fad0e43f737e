-- Sections that are one number (WebAssembly Core 3.0, Start Section and Data Count Section).
use Rattle.std.specs.Prelude.{ℕ}
use Rattle.wasm_codec.specs.Encoding.{byte_list_bytes, IsMinimal}
use Rattle.wasm_codec.specs.formats.Combinators.{Format}
use Rattle.wasm_sections.specs.formats.ModuleSectionParts.{ModuleSectionParts}
use Rattle.wasm_sections.specs.SectionBytes.{IsSectionAfter}

-- The body of this format is the number's minimal encoding. After the id, its size and the body are the minimal
-- encoding of the module's section with this number.
abbrev pub IsWrittenNumber : Format ℕ → ℕ → (ℕ → ModuleSectionParts) → ℕ → Type 0
IsWrittenNumber F id holding number = IsMinimal F.Encodes F.bytes number × IsSectionAfter id (byte_list_bytes (F.bytes number)) (holding number)

-- Data segments (WebAssembly Core 3.0, Data Section).
use Rattle.std.specs.Prelude.{ℕ, zero, suc, ◌==◌, if◌then◌else◌, List, Option, Some, None}
use Rattle.wasm_instructions.specs.formats.Instructions.{Instruction}
use Rattle.wasm_codec.specs.formats.Combinators.{Format, never, ◌⊗◌, made, u32}
use Rattle.wasm_codec.specs.formats.Bodies.{byte_list}
use Rattle.wasm_sections.specs.declared.data.DataSegmentMode.TheVariants as data_modes
use Rattle.wasm_sections.specs.formats.EntryParts.{DataParts}
use Rattle.wasm_externals.specs.formats.PartCombinators.{numbered}
use Rattle.wasm_externals.specs.formats.Expressions.{expr}

-- The active data segment for this memory, with this offset and these bytes.
abbrev pub active_data : ℕ → List Instruction × List ℕ → DataParts
active_data memory p = record { mode = data_modes.Active memory p.0; data_bytes = p.1 }

-- The passive data segment with these bytes.
abbrev pub passive_data : List ℕ → DataParts
passive_data bytes = record { mode = data_modes.Passive; data_bytes = bytes }

abbrev pub first_data_part : DataParts → Option (List Instruction × List ℕ)
first_data_part d = elim d.mode [ data_modes.Active memory offset ↦ Some (offset, d.data_bytes) | data_modes.Passive ↦ None ]

abbrev pub any_data_part : DataParts → Option (ℕ × (List Instruction × List ℕ))
any_data_part d = elim d.mode [ data_modes.Active memory offset ↦ Some (memory, (offset, d.data_bytes)) | data_modes.Passive ↦ None ]

abbrev pub passive_data_part : DataParts → Option (List ℕ)
passive_data_part d = elim d.mode [ data_modes.Active memory offset ↦ None | data_modes.Passive ↦ Some d.data_bytes ]

-- The number of the form that a data segment is written in.
abbrev pub data_number : DataParts → ℕ
data_number d = elim d.mode [ data_modes.Active memory offset ↦ if memory == 0 then 0 else 2 | data_modes.Passive ↦ 1 ]

-- A data segment in the form of this number, without the number.
abbrev pub data_form : ℕ → Format DataParts
data_form zero = made (active_data 0) first_data_part (expr ⊗ byte_list)
data_form (suc zero) = made passive_data passive_data_part byte_list
data_form (suc (suc zero)) = made (λ p. active_data p.0 p.1) any_data_part (u32 ⊗ (expr ⊗ byte_list))
data_form n = never

-- A data segment.
-- data ::= 0:u32 e:expr b*:list(byte) ⇒ data b* (active 0 e) | 1:u32 b*:list(byte) ⇒ data b* passive
--       |  2:u32 x:memidx e:expr b*:list(byte) ⇒ data b* (active x e)
-- The third is a long form for memory 0.
unfoldable pub data_segment : Format DataParts
data_segment = numbered data_number data_form

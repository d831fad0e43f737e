use Rattle.wasm_codec.specs.Outcomes.{as_read}
use Rattle.wasm_codec.proofs.BodyLaws.{Lawful-to-end}
use Rattle.wasm_codec.proofs.DecodingLaws.{decodes}
use Rattle.wasm_codec.proofs.ListReading.{none_within}
use Rattle.wasm_codec.proofs.PlaceLists.{prefix_free}
use Rattle.wasm_codec.proofs.FormatLaws.{Lawful-u32, Lawful-u64, Lawful-s32, Lawful-index}
use Rattle.wasm_codec.proofs.RawFormatLaws.{Lawful-s64}
use Rattle.wasm_types.proofs.TypeFormatLaws.{Lawful-heap-type, Lawful-ref-type, Lawful-val-type}
use Rattle.wasm_instructions.specs.formats.Instructions.{Instructions}
use Rattle.wasm_instructions.proofs.OperandFormatLaws.{Lawful-block-type}
use Rattle.wasm_instructions.proofs.InstructionFormatLaws.{Lawful-operands, Lawful-instruction, instruction_takes}
use Rattle.wasm_instructions.proofs.reader.instructions.read_instructions.Goals as goal

pub returns : goal.returns
returns c =
    let e = c.read_calls_to_end.ensures in
    let none = none_within Instructions c.args.bytes.now (as_read c.read_calls_to_end.result) e.prefix e.within in
    rw c.without_reason.ensures (record {
      decodes = decodes (Lawful-to-end Lawful-instruction instruction_takes) c.args.bytes.now (λ calls. calls.items) (as_read c.read_calls_to_end.result) (record { given = e.given; prefix = e.prefix; unencoded = none });
      prefix_free = record {
        u32 = prefix_free Lawful-u32;
        u64 = prefix_free Lawful-u64;
        s32 = prefix_free Lawful-s32;
        s64 = prefix_free Lawful-s64;
        index = prefix_free Lawful-index;
        heap_types = prefix_free Lawful-heap-type;
        ref_types = prefix_free Lawful-ref-type;
        val_types = prefix_free Lawful-val-type;
        block_types = prefix_free Lawful-block-type;
        operands = λ kind. prefix_free (Lawful-operands kind);
        calls = prefix_free Lawful-instruction;
      };
    })

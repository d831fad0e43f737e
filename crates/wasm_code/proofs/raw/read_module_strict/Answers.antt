use Rattle.wasm_codec.specs.Outcomes.{as_read}
use Rattle.std.proofs.Common.{arith}
use Rattle.wasm_codec.specs.formats.Grammar.{IsBytes}
use Rattle.wasm_codec.proofs.DecodingLaws.{decodes_minimal}
use Rattle.wasm_codec.proofs.ListReading.{IsBytes-from}
use Rattle.wasm_code.specs.formats.Sections.{all_parts_of}
use Rattle.wasm_code.proofs.ModuleFormatLaws.{Lawful-raw-module, is_minimal_module}
use Rattle.wasm_code.proofs.ModuleLaws.{all_encoded}
use Rattle.wasm_code.proofs.raw.read_module_strict.Goals as goal

pub returns : goal.returns
returns c =
    let all = decodes_minimal Lawful-raw-module c.args.bytes.now is_minimal_module (λ sections. all_parts_of sections.items) (as_read c.read_module_of.result) c.read_module_of.ensures.reads in
    let are : IsBytes c.args.bytes.now = IsBytes-from c.args.bytes.now (λ i. omega (arith, c.type_inv.bytes i)) in
    rw c.without_reason.ensures (record {
      decodes = all;
      reads_back = λ sections fits e. all.complete sections ((is_minimal_module c.args.bytes.now sections).1 (all_encoded c.args.bytes.now sections are fits e, e));
    })

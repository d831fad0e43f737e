use Rattle.wasm_codec.specs.Outcomes.{as_read}
use Rattle.std.proofs.Common.{◌∙◌, map, arith}
use Rattle.wasm_codec.specs.formats.Grammar.{IsBytes}
use Rattle.wasm_codec.proofs.DecodingLaws.{decodes}
use Rattle.wasm_codec.proofs.ListReading.{IsBytes-from}
use Rattle.wasm_codec.proofs.PlaceLists.{prefix_free}
use Rattle.wasm_code.specs.formats.Sections.{all_parts_of}
use Rattle.wasm_code.specs.Modules.{framed}
use Rattle.wasm_code.proofs.ModuleFormatLaws.{Lawful-raw-section, Lawful-decoded-section, Lawful-raw-module}
use Rattle.wasm_code.proofs.ModuleLaws.{all_encoded, module_framed, all_framed, is_held}
use Rattle.wasm_code.proofs.raw.read_module.Goals as goal

pub returns : goal.returns
returns c =
    let all = decodes Lawful-raw-module c.args.bytes.now (λ sections. all_parts_of sections.items) (as_read c.read_module_of.result) c.read_module_of.ensures.reads in
    let are : IsBytes c.args.bytes.now = IsBytes-from c.args.bytes.now (λ i. omega (arith, c.type_inv.bytes i)) in
    rw c.without_reason.ensures (record {
      decodes = all;
      reads_back = λ sections fits e. all.complete sections (all_encoded c.args.bytes.now sections are fits e);
      reads_back_typed = record {
        encodes = λ sections fits e. all_encoded c.args.bytes.now sections are fits e;
        decoded_encodes = λ sections fits e. all_encoded c.args.bytes.now (map framed sections) are (all_framed sections fits) (e ∙ module_framed sections fits);
        decoded_read_back = λ sections fits e. all.complete (map framed sections) (all_encoded c.args.bytes.now (map framed sections) are (all_framed sections fits) (e ∙ module_framed sections fits));
        entries_read_back = λ section fits. is_held section.id section.content fits.content;
      };
      prefix_free = record { sections = prefix_free Lawful-raw-section; decoded_sections = prefix_free Lawful-decoded-section };
    })

use Rattle.wasm_codec.proofs.DecodingLaws.{error_is}
use Rattle.wasm_sections.specs.formats.EntryParts.{custom_parts}
use Rattle.wasm_sections.specs.formats.Sections.{custom_body}
use Rattle.wasm_sections.proofs.ValueReading.{refuses, returns_it}
use Rattle.wasm_sections.proofs.CustomLaws.{custom_wanting, custom_there, all_taken}
use Rattle.wasm_sections.proofs.custom.read_name_and_bytes.Goals as goal

pub returns-in-Err-clause-reads : goal.returns-in-Err-clause-reads
returns-in-Err-clause-reads c = rw (c.new.ensures.error, error_is c.in-Err.fault 0 c.in-Err.ensures.err) (refuses custom_parts custom_body c.args.body.now 0 (custom_wanting c.args.body.now c.new-cursor.result c.new-cursor.ensures c.read_name.new.cursor c.in-Err.fault c.in-Err.ensures.reads c.in-Err.ensures.err))

pub returns-clause-reads : goal.returns-clause-reads
returns-clause-reads c =
    let rest = all_taken c.in-Ok-take.bytes.now c.read_name.new.cursor.left c.len-left.result c.len-left.ensures c.in-Ok-take.ensures.ok.0 in
    returns_it custom_parts custom_body c.args.body.now (record { name = c.in-Ok.name; bytes = c.in-Ok-take.bytes }) (custom_there c.args.body.now c.new-cursor.result c.new-cursor.ensures c.in-Ok.name.now c.in-Ok-take.bytes.now c.read_name.new.cursor c.in-Ok.ensures.reads c.are_bytes.ensures rest)

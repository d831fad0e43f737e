use Rattle.wasm_codec.proofs.DecodingLaws.{error_is}
use Rattle.std.proofs.Common.{◌≡◌, true, sym, ◌∙◌}
use Rattle.wasm_codec.specs.formats.Combinators.{minimal_only}
use Rattle.wasm_sections.specs.formats.EntryParts.{custom_parts}
use Rattle.wasm_sections.specs.formats.Sections.{custom_body}
use Rattle.wasm_sections.proofs.ValueReading.{refuses, returns_it}
use Rattle.wasm_sections.proofs.CustomLaws.{short_wanting, short_long, short_there, all_taken}
use Rattle.wasm_sections.proofs.custom.read_name_and_bytes_strict.Goals as goal

pub returns-in-Err-clause-reads : goal.returns-in-Err-clause-reads
returns-in-Err-clause-reads c = rw (c.new.ensures.error, error_is c.in-Err.fault 0 c.in-Err.ensures.err) (refuses custom_parts (minimal_only custom_body) c.args.body.now 0 (short_wanting c.args.body.now c.new-cursor.result c.new-cursor.ensures c.read_name.new.cursor c.in-Err.fault c.in-Err.ensures.reads c.in-Err.ensures.err))

pub returns-then-not-is_minimal-clause-reads : goal.returns-then-not-is_minimal-clause-reads
returns-then-not-is_minimal-clause-reads c = rw c.refused.ensures.error (refuses custom_parts (minimal_only custom_body) c.args.body.now 0 (short_long c.args.body.now c.new-cursor.result c.new-cursor.ensures c.in-Ok.name.now c.in-Ok.name.now c.read_name.new.cursor c.in-Ok.ensures.reads (sym c.is_minimal.ensures ∙ c.if-not-is_minimal.true)))

pub returns-clause-reads : goal.returns-clause-reads
returns-clause-reads c =
    let short : c.read_name.new.cursor.minimal ≡ true = sym c.is_minimal.ensures ∙ c.if-not-is_minimal.false in
    let rest = all_taken c.in-Ok-take.bytes.now c.read_name.new.cursor.left c.len-left.result c.len-left.ensures c.in-Ok-take.ensures.ok.0 in
    returns_it custom_parts (minimal_only custom_body) c.args.body.now (record { name = c.in-Ok.name; bytes = c.in-Ok-take.bytes }) (short_there c.args.body.now c.new-cursor.result c.new-cursor.ensures c.in-Ok.name.now c.in-Ok-take.bytes.now c.read_name.new.cursor c.in-Ok.ensures.reads c.are_bytes.ensures rest short)

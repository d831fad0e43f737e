use Rattle.wasm_codec.proofs.MinimalIfLaws.{flag}
use Rattle.wasm_custom_sections.proofs.LinkingLaws.{version_begins}
use Rattle.wasm_custom_sections.proofs.linking.after_version.Goals as goal

pub returns-clause-ok : goal.returns-clause-ok
returns-clause-ok g c = version_begins (λ rest. rest.now) (flag g.row.STRICT) c.args.bytes.now c.new-cursor.result c.read_version.new.cursor c.in_ok-read_version.field-0 c.len-left.result c.new-cursor.ensures c.are_bytes.ensures c.in_ok-read_version.ensures.reads c.len-left.ensures _ c.take.result c.take.ensures.ok

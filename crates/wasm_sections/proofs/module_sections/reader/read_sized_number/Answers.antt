use Rattle.wasm_codec.specs.formats.Combinators.{u32}
use Rattle.wasm_sections.proofs.ModuleSectionLaws.{body_read}
use Rattle.wasm_sections.proofs.module_sections.reader.read_sized_number.Goals as goal

pub returns : goal.returns
returns c = rw (c.set_minimal.ensures, c.is_minimal.ensures) (record { reads = body_read c.args.cursor.now c.body.new.self c.in_ok-body.body c.in_ok-body.ensures.reads c.in_ok-body.ensures.tells u32 c.u32.new.self c.in_ok-number.number c.len.result c.in_ok-number.ensures.reads c.len.ensures c.if-len-gt0.false })

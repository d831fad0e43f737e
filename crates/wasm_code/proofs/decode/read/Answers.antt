use Rattle.wasm_codec.specs.Outcomes.{as_read}
use Rattle.wasm_codec.proofs.DecodingLaws.{decodes}
use Rattle.wasm_code.proofs.decode.read.Goals as goal

pub returns-clause-decodes : goal.returns-clause-decodes
returns-clause-decodes g c = rw c.explained.ensures.same (decodes c.is_lawful.ensures.lawful c.args.bytes.now g.T.Decode.view (as_read c.read_all.result) c.read_all.ensures.reads)

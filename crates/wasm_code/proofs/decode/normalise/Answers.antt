use Rattle.wasm_codec.specs.Outcomes.{as_read}
use Rattle.wasm_codec.proofs.DecodingLaws.{normalises}
use Rattle.wasm_code.proofs.decode.normalise.Goals as goal

pub returns-clause-normalises : goal.returns-clause-normalises
returns-clause-normalises g c = rw c.explained.ensures.same (normalises c.is_lawful.ensures.lawful c.args.bytes.now c.is_lawful.ensures.minimal (as_read c.rewrite_copy.result) c.rewrite_copy.ensures.rewrites)

use Rattle.wasm_codec.proofs.DecodingLaws.{normalises}
use Rattle.wasm_code.proofs.ModuleFormatLaws.{Lawful-decoded-module}
use Rattle.wasm_code.proofs.normaliser.normalise_module.Goals as goal

pub returns-clause-normalises : goal.returns-clause-normalises
returns-clause-normalises c = normalises Lawful-decoded-module c.args.bytes.now (λ bytes sections. (λ is. is, λ is. is)) c.module_bytes_of.result c.module_bytes_of.ensures.rewrites

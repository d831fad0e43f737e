use Rattle.wasm_codec.proofs.DecodingLaws.{normalises_slice}
use Rattle.wasm_code.proofs.ModuleFormatLaws.{Lawful-decoded-module}
use Rattle.wasm_code.proofs.normaliser.rewrite_module_in_place.Goals as goal

pub returns-clause-normalises : goal.returns-clause-normalises
returns-clause-normalises c =
    let n = c.rewrite_module_of in
    rw c.without_memory.ensures (normalises_slice Lawful-decoded-module c.args.bytes.now n.new.bytes n.result n.ensures.len n.ensures.rewrites n.ensures.memory)

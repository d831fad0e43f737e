use Rattle.wasm_codec.proofs.DecodingLaws.{normalises_slice}
use Rattle.wasm_code.proofs.decode.rewrite_in_place.Goals as goal

pub returns-clause-normalises : goal.returns-clause-normalises
returns-clause-normalises g c =
    let n = c.rewrite_all in
    rw c.without_memory.ensures (normalises_slice c.is_lawful.ensures.lawful c.args.bytes.now n.new.bytes n.result n.ensures.len n.ensures.rewrites n.ensures.memory)

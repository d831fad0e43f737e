use Rattle.std.proofs.Common.{arith, ap}
use Rattle.wasm_codec.specs.Outcomes.{as_read, read_error_of}
use Rattle.wasm_codec.proofs.DecodingLaws.{refused_vector, rewritten_vector}
use Rattle.wasm_code.proofs.decode.rewrite.Goals as goal

pub returns-in-Ok-clause-normalises : goal.returns-in-Ok-clause-normalises
returns-in-Ok-clause-normalises g c =
    let n = c.rewrite_all in
    rewritten_vector c.is_lawful.ensures.lawful c.args.bytes.items c.as_mut_slice.result.now n.new.bytes _ c.args.bytes.len c.in-Ok.len (as_read n.result) c.truncate.new.self (ap as_read c.in-Ok.is) c.as_mut_slice.ensures.value (omega arith) c.truncate.ensures.items n.ensures.rewrites

pub returns-in-Err-clause-normalises : goal.returns-in-Err-clause-normalises
returns-in-Err-clause-normalises g c =
    let n = c.rewrite_all in
    refused_vector c.is_lawful.ensures.lawful c.args.bytes.items c.as_mut_slice.result.now n.new.bytes (read_error_of c.in-Err.error) (as_read n.result) (ap as_read c.in-Err.is) c.as_mut_slice.ensures.value n.ensures.rewrites n.ensures.memory

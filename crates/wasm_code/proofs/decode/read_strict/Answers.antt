use Rattle.wasm_code.proofs.decode.read_strict.Goals as goal

pub returns-in_ok-readable_len-in-Err-clause-why : goal.returns-in_ok-readable_len-in-Err-clause-why
returns-in_ok-readable_len-in-Err-clause-why g c = c.compared.ensures.why c.args.bytes.now c.in-Err.ensures.why

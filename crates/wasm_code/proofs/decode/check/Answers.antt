use Rattle.wasm_code.proofs.decode.check.Goals as goal

pub returns-in_ok-rewritable_len-in-Err-clause-why : goal.returns-in_ok-rewritable_len-in-Err-clause-why
returns-in_ok-rewritable_len-in-Err-clause-why g c = c.compared.ensures.why c.args.bytes.now c.in-Err.ensures.why

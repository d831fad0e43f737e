use Rattle.wasm_code.proofs.reasons.+ends_within.Given as goal

abbrev pub decreases-ends_within : goal.decreases-ends_within
decreases-ends_within l = l.most

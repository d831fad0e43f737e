use Rattle.wasm_modules.proofs.modules.check_whole_module.Goals as goal

pub returns : goal.returns
returns c = rw c.without_reason.ensures (record { checks = c.check.ensures.checks })

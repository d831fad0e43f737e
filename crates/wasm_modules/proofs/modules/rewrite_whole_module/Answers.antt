use Rattle.wasm_modules.proofs.modules.rewrite_whole_module.Goals as goal

pub returns : goal.returns
returns c = rw c.without_reason.ensures (record { normalises = c.rewrite.ensures.normalises })

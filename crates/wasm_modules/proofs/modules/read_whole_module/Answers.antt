use Rattle.wasm_modules.proofs.modules.read_whole_module.Goals as goal

pub returns : goal.returns
returns c = rw c.without_reason.ensures (record { decodes = c.read.ensures.decodes })

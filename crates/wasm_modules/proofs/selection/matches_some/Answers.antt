use Rattle.wasm_modules.proofs.selection.matches_some.Goals as goal

pub loop-pattern-init : goal.loop-pattern-init
loop-pattern-init c = record { back = λ m. m; only = λ m. m }

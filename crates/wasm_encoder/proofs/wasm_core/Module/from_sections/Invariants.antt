use Rattle.std.proofs.Common.{take}
use Rattle.wasm_encoder.proofs.BuiltModuleLaws.{HasSections}
use Rattle.wasm_encoder.proofs.wasm_core.Module.from_sections.Given as goal

abbrev pub invariant-loop-section : goal.invariant-loop-section
invariant-loop-section l = HasSections (take l.section-index l.sections) l.module

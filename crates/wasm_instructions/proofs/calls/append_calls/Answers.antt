use Rattle.wasm_instructions.proofs.InstructionFormatLaws.{WritesMinimally-instructions}
use Rattle.wasm_instructions.proofs.calls.append_calls.Goals as goal

pub returns-in-len1-clause-minimal : goal.returns-in-len1-clause-minimal
returns-in-len1-clause-minimal g c bytes = WritesMinimally-instructions.least bytes c.args.calls.now

pub returns-in_default-clause-minimal : goal.returns-in_default-clause-minimal
returns-in_default-clause-minimal g c bytes = WritesMinimally-instructions.least bytes c.args.calls.now

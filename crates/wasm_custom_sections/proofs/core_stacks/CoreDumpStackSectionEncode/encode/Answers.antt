use Rattle.std.specs.Prelude.{codes}
use Rattle.wasm_custom_sections.proofs.CoreStackLaws.{stack_refused}
use Rattle.wasm_custom_sections.proofs.core_stacks.CoreDumpStackSectionEncode.encode.Goals as goal

pub returns-clause-refused : goal.returns-clause-refused
returns-clause-refused g c = rw c.keep_or_undo.ensures.same (stack_refused c.args.self.now c.append_named-result.result (codes "corestack") c.as_contents.result.name.now c.as_contents.result.frames.now c.as_contents.ensures.name c.as_contents.ensures.frames c.append_named-result.ensures.refused)

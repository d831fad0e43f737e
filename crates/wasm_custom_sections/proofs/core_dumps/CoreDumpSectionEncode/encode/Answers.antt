use Rattle.std.specs.Prelude.{codes}
use Rattle.wasm_custom_sections.proofs.CoreDumpLaws.{process_refused}
use Rattle.wasm_custom_sections.proofs.core_dumps.CoreDumpSectionEncode.encode.Goals as goal

pub returns-clause-refused : goal.returns-clause-refused
returns-clause-refused g c = rw c.keep_or_undo.ensures.same (process_refused c.append_named-result.result (codes "core") c.args.self.now.name.now c.append_named-result.ensures.refused)

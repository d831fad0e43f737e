use Rattle.std.proofs.Common.{◌∙◌, sym}
use Rattle.wasm_modules.proofs.OffsetLaws.{begins, begins_not}
use Rattle.wasm_modules.proofs.offsets.begins_with.Goals as goal

pub returns-clause-yes : goal.returns-clause-yes
returns-clause-yes c = λ e. rw (← c.as_bytes.ensures.value, ← c.as_bytes-2.ensures.value) (begins (λ rest. rest.now) c.as_bytes-2.result.now c.as_bytes.result.now c.strip_prefix.result c.strip_prefix.ensures.cases (sym c.is_some.ensures ∙ e))

pub returns-clause-no : goal.returns-clause-no
returns-clause-no c = λ e. rw (← c.as_bytes.ensures.value, ← c.as_bytes-2.ensures.value) (begins_not (λ rest. rest.now) c.as_bytes-2.result.now c.as_bytes.result.now c.strip_prefix.result c.strip_prefix.ensures.cases (sym c.is_some.ensures ∙ e))

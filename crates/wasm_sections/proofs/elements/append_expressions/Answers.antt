use Rattle.wasm_codec.proofs.AppendLaws.{kept_before}
use Rattle.wasm_sections.proofs.elements.append_expressions.Goals as goal

pub returns-clause-kept : goal.returns-clause-kept
returns-clause-kept g c = kept_before _ _ _ _ c.in_ok-encode.ensures.ok c.append_each_expression.ensures.kept

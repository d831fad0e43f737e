use Rattle.std.proofs.Common.{◌∙◌}
use Rattle.wasm_custom_sections.proofs.LinkingLaws.{linking_written}
use Rattle.wasm_custom_sections.proofs.linking.LinkingSectionEncode.encode.Goals as goal

pub returns-clause-written : goal.returns-clause-written
returns-clause-written g c = linking_written _ c.args.self.now c.as_slice.result.now (c.as_slice.ensures.value ∙ c.in_ok-contents.ensures.ok) c.encode.result c.encode.ensures.written

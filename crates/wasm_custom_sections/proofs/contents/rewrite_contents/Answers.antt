use Rattle.std.proofs.Common.{arith}
use Rattle.wasm_codec.proofs.DecodingLaws.{truncated_items}
use Rattle.wasm_custom_sections.proofs.ContentsLaws.{minimal_contents}
use Rattle.wasm_custom_sections.proofs.contents.rewrite_contents.Goals as goal

pub returns-clause-minimal : goal.returns-clause-minimal
returns-clause-minimal c =
    let items = truncated_items c.minimise_contents.new.bytes _ c.truncate.new.self.items c.args.bytes.len c.in_ok-len.len (omega arith) c.truncate.ensures.items in
    minimal_contents c.args.bytes.items c.truncate.new.self.items (rw (items, ← c.as_mut_slice.ensures.value) c.in_ok-len.ensures.ok)

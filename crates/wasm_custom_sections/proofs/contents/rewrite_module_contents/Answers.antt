use Rattle.std.proofs.Common.{arith}
use Rattle.wasm_codec.proofs.DecodingLaws.{truncated_items}
use Rattle.wasm_custom_sections.proofs.ContentsLaws.{given_minimal}
use Rattle.wasm_custom_sections.proofs.contents.rewrite_module_contents.Goals as goal

pub returns-in_ok-minimal-in-Ok-clause-rewrites : goal.returns-in_ok-minimal-in-Ok-clause-rewrites
returns-in_ok-minimal-in-Ok-clause-rewrites c =
    let items = truncated_items c.rewrite_raw_module.new.bytes _ c.truncate.new.self.items c.args.bytes.len c.in-Ok.len (omega arith) c.truncate.ensures.items in
    record {
      given = given_minimal c.args.bytes.items c.truncate.new.self.items (rw (items, ← c.as_mut_slice.ensures.value) c.in-Ok.ensures.rewrites.given) c.in_ok-minimal-in-Ok.minimal.items c.in_ok-minimal-in-Ok.ensures.ok;
      prefix = tt;
      unencoded = tt;
    }

pub returns-in-Err-clause-rewrites : goal.returns-in-Err-clause-rewrites
returns-in-Err-clause-rewrites c = record {
  given = tt;
  prefix = rw (← c.as_mut_slice.ensures.value) c.in-Err.ensures.rewrites.prefix;
  unencoded = rw (← c.as_mut_slice.ensures.value) c.in-Err.ensures.rewrites.unencoded;
}

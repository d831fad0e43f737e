use Rattle.std.proofs.Common.{refl}
use Rattle.wasm_codec.specs.Leb128.{unsigned_leb128}
use Rattle.wasm_codec.proofs.AppendLaws.{appends_after, appends_as}
use Rattle.wasm_custom_sections.specs.formats.NameParts.{naming_parts}
use Rattle.wasm_custom_sections.specs.formats.Names.{naming}
use Rattle.wasm_custom_sections.proofs.NamingLaws.{naming_written}
use Rattle.wasm_custom_sections.proofs.name_maps.append_naming.Goals as goal

pub returns : goal.returns
unfolding naming
returns g c =
    appends_as refl (naming_written (naming_parts c.args.item.now) c.put_u32.ensures.minimal) (appends_after (unsigned_leb128 c.args.item.now.index) c.append_name.ensures (rw (← c.in_ok-reserve.ensures.items) c.put_u32.ensures.items))

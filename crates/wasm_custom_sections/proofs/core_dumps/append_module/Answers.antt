use Rattle.std.proofs.Common.{[], ◌∷◌, refl}
use Rattle.wasm_codec.proofs.AppendLaws.{appends_after, appends_as}
use Rattle.wasm_custom_sections.specs.formats.CoreDumps.{core_name}
use Rattle.wasm_custom_sections.proofs.CoreDumpLaws.{core_name_written}
use Rattle.wasm_custom_sections.proofs.core_dumps.append_module.Goals as goal

pub returns : goal.returns
unfolding core_name
returns g c =
    appends_as refl (core_name_written c.args.item.now.name.now) (appends_after (0x00 ∷ []) c.append_name.ensures (rw (← c.in_ok-reserve.ensures.items) c.push_reserved.ensures.items))

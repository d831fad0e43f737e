use Rattle.std.proofs.Common.{refl}
use Rattle.wasm_externals.specs.formats.Externals.{global_type}
use Rattle.wasm_codec.proofs.AppendLaws.{appends_after, appends_as, appends_or_not}
use Rattle.wasm_sections.specs.formats.Entries.{global_entry, global_of}
use Rattle.wasm_sections.proofs.EntryLaws.{global_entry_written}
use Rattle.wasm_sections.proofs.globals.append_global.Goals as goal

pub returns : goal.returns
unfolding global_entry
returns g c =
    let expr = c.encode_expr.ensures in
    appends_as refl (global_entry_written (global_of (c.args.ty, c.args.init.now)) c.put_global_type.ensures.written) (appends_after (global_type.bytes c.args.ty) (appends_or_not expr.ok expr.can expr.written expr.refused expr.err) (rw (← c.in_ok-reserve.ensures.items) c.put_global_type.ensures.items))

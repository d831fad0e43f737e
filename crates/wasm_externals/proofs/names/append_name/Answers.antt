use Rattle.wasm_externals.specs.formats.Names.{name}
use Rattle.wasm_codec.proofs.AppendLaws.{appends_or_not, count_refused, where_ok}
use Rattle.wasm_externals.proofs.NameLaws.{name_written}
use Rattle.wasm_externals.proofs.names.append_name.Goals as goal

pub returns : goal.returns
unfolding name
returns g c =
    let call = c.encode_str.ensures in
    let written = where_ok c.encode_str.result (name_written c.args.text.now c.are_utf8.ensures.bytes c.are_utf8.ensures.utf8) call.can in
    appends_or_not call.ok call.can written (count_refused _ _ call.refused) call.err

use Rattle.std.proofs.Common.{sym, subst, ◌∙◌}
use Rattle.std.specs.Str.{IsUtf8}
use Rattle.wasm_externals.proofs.NameLaws.{name_read}
use Rattle.wasm_externals.proofs.names.read_name.Goals as goal

pub returns-in-Ok-clause-reads : goal.returns-in-Ok-clause-reads
returns-in-Ok-clause-reads c =
    name_read c.args.cursor.now c.u32.new.self c.take_sized.new.self c.in_ok-size.size c.in-Ok.text.now c.in_ok-size.ensures.reads c.in_ok-bytes.ensures.enough
    (c.in-Ok.ensures.cases.0 ∙ c.in_ok-bytes.ensures.ok.0) c.in_ok-bytes.ensures.ok.1 (subst IsUtf8 (sym c.in-Ok.ensures.cases.0) c.in-Ok.ensures.cases.1)

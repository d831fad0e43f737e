use Rattle.std.proofs.lemmas.Result.{err_from_is_err_and}
use Rattle.wasm_codec.specs.Lists.{BreaksAtItem}
use Rattle.wasm_codec.specs.formats.Combinators.{items, u32}
use Rattle.wasm_codec.proofs.RefusalNumbers.{in_body}
use Rattle.wasm_sections.proofs.ModuleSectionLaws.{body_read}
use Rattle.wasm_sections.proofs.bodies.read_sized_list.Goals as goal

pub returns : goal.returns
returns g c = rw (c.set_minimal.ensures, c.is_minimal.ensures) (record { reads = body_read c.args.cursor.now c.body.new.self c.in_ok-body.body c.in_ok-body.ensures.reads c.in_ok-body.ensures.tells (items g.T.Readable.format) c.read_list.new.cursor (g.T.Readable.views c.in_ok-items.items) c.len.result c.in_ok-items.ensures.reads c.len.ensures c.if-len-gt0.false; names = λ index e. absurd e })

pub returns-in_err-items-clause-names : goal.returns-in_err-items-clause-names
returns-in_err-items-clause-names g c =
    let p = err_from_is_err_and c.from_residual-in_err-items.result c.from_residual-in_err-items.ensures.1 in
    let body = c.in_ok-body.body in
    rw (p.1, p.2) (λ index e. in_body (BreaksAtItem u32 g.T.Readable.format) c.args.cursor.now body.left c.body.new.self c.are_bytes.ensures c.in_ok-body.ensures.reads index (c.in_err-items.ensures.names index e))

use Rattle.std.proofs.Common.{not, nat_eq, arith}
use Rattle.wasmcanon.proofs.ResultLaws.{form_with, is_form}
use Rattle.wasmcanon.proofs.StaleLaws.{names_of, same_number}
use Rattle.wasmcanon.proofs.run.read_form.Goals as goal

pub returns-clause-ok : goal.returns-clause-ok
returns-clause-ok g c =
    let known = g.R.Read.remaining c.args.reader.now in
    let canonical = c.in_ok-canonical in
    let hinted = c.in_ok-hinted in
    let chosen = c.choose_sections-chosen.ensures in
    let contents = c.in_ok-bytes.ensures in
    form_with known c.args.options hinted.hinted.are_moved c.in_ok-bytes.bytes.items
    (is_form known c.args.options hinted.hinted.are_moved canonical.canonical.has_moved canonical.canonical.code canonical.canonical.bytes.items hinted.hinted.bytes.items c.choose_sections-chosen.result.items c.in_ok-bytes.bytes.items canonical.ensures.ok canonical.ensures.code canonical.ensures.moved hinted.ensures.hints hinted.ensures.minimal chosen.chosen chosen.minimal contents.contents contents.minimal)

pub returns-clause-stale : goal.returns-clause-stale
returns-clause-stale g c =
    let known = g.R.Read.remaining c.args.reader.now in
    let canonical = c.in_ok-canonical in
    let hinted = c.in_ok-hinted in
    let chosen = c.choose_sections-chosen.ensures in
    let contents = c.in_ok-bytes.ensures in
    let form = is_form known c.args.options hinted.hinted.are_moved canonical.canonical.has_moved canonical.canonical.code canonical.canonical.bytes.items hinted.hinted.bytes.items c.choose_sections-chosen.result.items c.in_ok-bytes.bytes.items canonical.ensures.ok canonical.ensures.code canonical.ensures.moved hinted.ensures.hints hinted.ensures.minimal chosen.chosen chosen.minimal contents.contents contents.minimal in
    names_of known c.args.options hinted.hinted.are_moved canonical.canonical.code canonical.canonical.bytes.items hinted.hinted.bytes.items c.choose_sections-chosen.result.items c.in_ok-bytes.bytes.items c.as_slice.result.now c.in_ok-stale.stale.items canonical.canonical.has_moved (not (nat_eq c.len.result c.len-len.result)) c.as_slice.ensures.value canonical.ensures.ok canonical.ensures.moved hinted.ensures.hints hinted.ensures.stays chosen.chosen contents.contents (λ stays. omega (arith, same_number c.len.result c.len-len.result stays, c.len.ensures, c.len-len.ensures)) form c.in_ok-stale.ensures

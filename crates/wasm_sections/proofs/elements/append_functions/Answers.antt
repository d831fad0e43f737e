use Rattle.std.proofs.Common.{refl, rules}
use Rattle.wasm_codec.proofs.AppendLaws.{appends_or_not, where_both_ok}
use Rattle.wasm_sections.specs.declared.elements.Elements.TheVariants as held
use Rattle.wasm_sections.proofs.ElementLaws.{functions_fit}
use Rattle.wasm_sections.proofs.elements.append_functions.Goals as goal

pub returns-then-short : goal.returns-then-short
returns-then-short g c =
    let fs = c.args.functions.now in
    let call = c.encode_list.ensures in
    let fits = where_both_ok c.encode_list.result (λ can. functions_fit c.args.short (held.Functions fs) fs fs refl refl can.0) call.can call.written in
    appends_or_not (search rules) (search rules) fits (search rules) call.err

pub returns-else-short : goal.returns-else-short
returns-else-short g c =
    let fs = c.args.functions.now in
    let call = c.encode_list_after.ensures in
    let fits = where_both_ok c.encode_list_after.result (λ can. functions_fit c.args.short (held.Functions fs) fs fs refl refl can.0) call.can call.written in
    appends_or_not (search rules) (search rules) fits (search rules) call.err

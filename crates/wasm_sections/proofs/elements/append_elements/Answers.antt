use Rattle.std.proofs.Common.{rules}
use Rattle.wasm_sections.proofs.ElementLaws.{expressions_fit, type_fits, not_both}
use Rattle.wasm_codec.proofs.AppendLaws.{appends_after, appends_as, appends_or_not, where_both_ok}
use Rattle.wasm_types.specs.formats.Types.{ref_type}
use Rattle.wasm_sections.proofs.elements.append_elements.Goals as goal

pub returns-then-short : goal.returns-then-short
returns-then-short g c =
    let call = c.encode_expressions.ensures in
    let fits = where_both_ok c.encode_expressions.result (λ can. expressions_fit c.args.short c.args.elements.now c.in-Expressions.ty c.in-Expressions.expressions c.as_slice-then-short.result.now c.in-Expressions.is c.as_slice-then-short.ensures.value (λ no. absurd (not_both c.args.short c.if-short.true no)) can.0) call.can call.written in
    appends_or_not (search rules) (search rules) fits (search rules) call.err

pub returns-in_ok-reserve-in-Expressions : goal.returns-in_ok-reserve-in-Expressions
returns-in_ok-reserve-in-Expressions g c =
    let call = c.encode_expressions-in-Expressions.ensures in
    let fits = where_both_ok c.encode_expressions-in-Expressions.result (λ can. expressions_fit c.args.short c.args.elements.now c.in-Expressions.ty c.in-Expressions.expressions c.as_slice-in-Expressions.result.now c.in-Expressions.is c.as_slice-in-Expressions.ensures.value (λ no. type_fits c.in-Expressions.ty c.put_ref_type.ensures.fits) can.0) call.can call.written in
    appends_as (search rules) (λ held. held) (appends_after (ref_type.bytes c.in-Expressions.ty) (appends_or_not call.ok (search rules) fits (search rules) call.err) (rw (← c.reserve.ensures.items) c.put_ref_type.ensures.items))

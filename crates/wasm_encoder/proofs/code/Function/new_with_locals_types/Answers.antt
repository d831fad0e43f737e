use Rattle.wasm_encoder.proofs.LocalGroups.{handed_on, locals_made, locals_not_made}
use Rattle.wasm_encoder.proofs.code.Function.new_with_locals_types.Goals as goal

pub returns-in_err-encode_list : goal.returns-in_err-encode_list
returns-in_err-encode_list c =
    let not_made = locals_not_made c.as_slice.result.now c.in_ok-groups.groups.items c.args.locals.now c.in_err-encode_list.field-0.0 c.as_slice.ensures.value c.in_ok-groups.ensures.groups c.in_err-encode_list.ensures.refused in
    record { makes = handed_on c.args.locals.now c.from_residual-in_err-encode_list.result c.in_err-encode_list.field-0.0 c.from_residual-in_err-encode_list.ensures.1 not_made }

pub returns : goal.returns
returns c = record { makes = locals_made c.new-bytes.result.items c.encode_list.new.sink.items c.as_slice.result.now c.in_ok-groups.groups.items c.args.locals.now c.new-bytes.ensures.items c.as_slice.ensures.value c.in_ok-groups.ensures.groups c.in_ok-encode_list.ensures.ok c.in_ok-encode_list.ensures.can c.in_ok-encode_list.ensures.written }

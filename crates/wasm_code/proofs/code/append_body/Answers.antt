use Rattle.std.proofs.Common.{rules, arith}
use Rattle.std.proofs.lemmas.Grind.{common_steps}
use Rattle.wasm_code.proofs.CodeBodyWriting.{func_parts, body_written, body_counted, body_too_long, body_in_range, OnOk-any}
use Rattle.wasm_code.proofs.code.append_body.Goals as goal

pub returns-then-is_err : goal.returns-then-is_err
returns-then-is_err g c =
    let written = func_parts c.args.body.now c.as_slice.result.now c.as_slice-2.result.now c.args.sink.now.items c.encode_list.new.sink.items c.append_calls.new.bytes.items c.len-start.result (omega (arith, c.len-start.ensures)) c.as_slice.ensures.value c.as_slice-2.ensures.value c.in_ok-encode_list.ensures.ok c.in_ok-append_calls.ensures.ok in
    record { ok = tt; can = tt; written = tt; refused = body_too_long c.args.body.now c.args.sink.now.items c.append_calls.new.bytes.items c.len-start.result written (search rules); kept = grind (arith, common_steps) }

pub returns : goal.returns
returns g c =
    let written = func_parts c.args.body.now c.as_slice.result.now c.as_slice-2.result.now c.args.sink.now.items c.encode_list.new.sink.items c.append_calls.new.bytes.items c.len-start.result (omega (arith, c.len-start.ensures)) c.as_slice.ensures.value c.as_slice-2.ensures.value c.in_ok-encode_list.ensures.ok c.in_ok-append_calls.ensures.ok in
    let can = OnOk-any c.put_size_before.result (body_counted c.args.body.now c.as_slice.result.now c.as_slice-2.result.now c.args.sink.now.items c.append_calls.new.bytes.items c.len-start.result written c.as_slice.ensures.value c.as_slice-2.ensures.value c.in_ok-encode_list.ensures.can.0 c.in_ok-append_calls.ensures.encodes (search rules)) in
    record {
      ok = body_written c.put_size_before.result c.args.body.now c.args.sink.now.items c.append_calls.new.bytes.items c.put_size_before.new.bytes.items c.len-start.result written c.put_size_before.ensures.ok;
      can = can;
      written = body_in_range c.put_size_before.result c.args.body.now c.as_slice.result.now c.as_slice-2.result.now c.as_slice.ensures.value c.as_slice-2.ensures.value can c.in_ok-encode_list.ensures.written c.in_ok-append_calls.ensures.encodes;
      refused = search rules;
      kept = grind (arith, common_steps);
    }

use Rattle.std.proofs.Common.{◌≡◌, length, arith}
use Rattle.wasm_codec.proofs.AppendLaws.{where_ok}
use Rattle.wasm_custom_sections.proofs.WholeValueLaws.{named_written}
use Rattle.wasm_custom_sections.proofs.whole_values.append_named.Goals as goal

pub returns-clause-section : goal.returns-clause-section
returns-clause-section g c =
    let title = c.args.name.now in
    let contents = g.T.Encode.bytes c.args.contents.now in
    let old = c.args.sink.now.items in
    let one = c.append_name.new.sink.items in
    let new = c.encode.new.sink.items in
    let ends : c.len.result ≡ length new = omega arith in
    let starts : c.len-start.result ≡ length old = omega arith in
    let begins : c.len-named.result ≡ length one = omega arith in
    let written = named_written title contents old one new c.len.result c.len-start.result c.len-named.result c.in_ok-append_name.ensures.ok c.in_ok-encode.ensures.ok ends starts begins (rw (← c.as_slice.ensures.value) c.are_bytes.ensures) c.in_ok-check_count.ensures.ok c.in_ok-append_name.ensures.written in
    where_ok c.put_size_before.result (λ same. written) c.put_size_before.ensures.ok

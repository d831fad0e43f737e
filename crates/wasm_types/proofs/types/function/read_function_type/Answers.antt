use Rattle.std.proofs.Common.{◌≡◌, arith}
use Rattle.wasm_types.proofs.ShortTypes.{function_read}
use Rattle.wasm_types.proofs.types.function.read_function_type.Goals as goal

pub returns : goal.returns
returns c =
    let is : c.in-Some-eq96.field-0 ≡ 0x60 = omega (arith, c.in-Some-eq96.field-0-test) in
    let first = rw is at c.in-Some-eq96.ensures in
    let params = rw c.in-Some.is at c.in_ok-params.ensures in
    let results = rw c.in-Some-2.is at c.in_ok-results.ensures in
    rw (c.new.ensures, c.from_lists.ensures) (function_read c.args.cursor.now c.next_byte.new.self c.read_number_types.new.cursor c.read_number_types-2.new.cursor c.in-Some.params c.in-Some-2.results first params results)

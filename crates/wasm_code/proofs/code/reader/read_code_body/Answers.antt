use Rattle.std.proofs.lemmas.Result.{err_from_is_err_and}
use Rattle.wasm_code.proofs.CodeBodyLaws.{CodeAt, code_read, no_size, no_locals, no_calls}
use Rattle.wasm_code.proofs.code.reader.read_code_body.Goals as goal

pub returns-in_err-code : goal.returns-in_err-code
returns-in_err-code c =
    let p = err_from_is_err_and c.from_residual.result c.from_residual.ensures.1 in
    rw (p.1, p.2) (record { reads = no_size c.args.cursor.now c.body.new.self c.body.new.self c.in_err-code.field-0.0 c.in_err-code.ensures.reads })

pub returns-in_err-locals : goal.returns-in_err-locals
returns-in_err-locals c =
    let p = err_from_is_err_and c.from_residual-in_err-locals.result c.from_residual-in_err-locals.ensures.1 in
    let at : CodeAt c.args.cursor.now c.body.new.self c.in_ok-code.code = record { body = c.in_ok-code.ensures.reads; tells = c.in_ok-code.ensures.tells } in
    rw (p.1, p.2) (record { reads = no_locals c.args.cursor.now c.body.new.self c.in_ok-code.code c.read_locals.new.cursor c.body.new.self c.in_err-locals.field-0.0 at c.in_err-locals.ensures.reads })

pub returns-in_err-calls : goal.returns-in_err-calls
returns-in_err-calls c =
    let p = err_from_is_err_and c.from_residual-in_err-calls.result c.from_residual-in_err-calls.ensures.1 in
    let at : CodeAt c.args.cursor.now c.body.new.self c.in_ok-code.code = record { body = c.in_ok-code.ensures.reads; tells = c.in_ok-code.ensures.tells } in
    rw (p.1, p.2) (record { reads = no_calls c.args.cursor.now c.body.new.self c.in_ok-code.code c.read_locals.new.cursor c.read_calls.new.cursor c.body.new.self c.in_ok-locals.locals c.in_err-calls.field-0.0 at c.in_ok-locals.ensures.reads c.in_err-calls.ensures.reads })

pub returns : goal.returns
returns c =
    let at : CodeAt c.args.cursor.now c.body.new.self c.in_ok-code.code = record { body = c.in_ok-code.ensures.reads; tells = c.in_ok-code.ensures.tells } in
    rw (c.set_minimal.ensures, c.is_minimal.ensures) (record { reads = code_read c.args.cursor.now c.body.new.self c.in_ok-code.code c.read_locals.new.cursor c.read_calls.new.cursor c.in_ok-locals.locals c.in_ok-calls.calls at c.in_ok-locals.ensures.reads c.in_ok-calls.ensures.reads c.in_ok-calls.ensures.ended })

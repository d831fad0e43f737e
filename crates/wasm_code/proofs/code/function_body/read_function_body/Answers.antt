use Rattle.std.proofs.Common.{◌≡◌, ◌∙◌, ap, arith}
use Rattle.std.proofs.lemmas.List.{take_all}
use Rattle.wasm_codec.specs.Places.{Place}
use Rattle.std.proofs.lemmas.Result.{err_from_is_err_and}
use Rattle.wasm_code.proofs.CodeBodyLaws.{CodeAt}
use Rattle.wasm_code.proofs.FunctionBodyLaws.{function_read, no_function_locals, no_function_size}
use Rattle.wasm_code.proofs.code.function_body.read_function_body.Goals as goal

pub returns-in_err-body : goal.returns-in_err-body
returns-in_err-body c =
    let p = err_from_is_err_and c.from_residual.result c.from_residual.ensures.1 in
    rw (p.1, p.2) (record { reads = no_function_size c.args.cursor.now c.body.new.self c.body.new.self c.in_err-body.field-0.0 c.in_err-body.ensures.reads })

pub returns-in_err-locals : goal.returns-in_err-locals
returns-in_err-locals c =
    let p = err_from_is_err_and c.from_residual-in_err-locals.result c.from_residual-in_err-locals.ensures.1 in
    let at : CodeAt c.args.cursor.now c.body.new.self c.in_ok-body.body = record { body = c.in_ok-body.ensures.reads; tells = c.in_ok-body.ensures.tells } in
    rw (p.1, p.2) (record { reads = no_function_locals c.args.cursor.now c.body.new.self c.in_ok-body.body c.read_locals.new.cursor c.body.new.self c.in_err-locals.field-0.0 at c.in_err-locals.ensures.reads })

pub returns : goal.returns
returns c =
    let at : CodeAt c.args.cursor.now c.body.new.self c.in_ok-body.body = record { body = c.in_ok-body.ensures.reads; tells = c.in_ok-body.ensures.tells } in
    let mid = c.read_locals.new.cursor in
    let ok = c.in_ok-instructions.ensures.ok in
    let all : c.in_ok-instructions.instructions.now ≡ mid.left = ok.0 ∙ take_all c.len-count.result mid.left (omega (arith, c.len-count.ensures)) in
    let tells : c.is_minimal.result ≡ mid.minimal = c.is_minimal.ensures ∙ ap (λ (p : Place). p.minimal) ok.1 in
    rw (all, c.set_minimal.ensures, tells) (record { reads = function_read c.args.cursor.now c.body.new.self c.in_ok-body.body mid c.in_ok-locals.locals at c.in_ok-locals.ensures.reads })

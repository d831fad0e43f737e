use Rattle.std.proofs.Common.{Err}
use Rattle.std.proofs.lemmas.Result.{err_from_is_err_and}
use Rattle.wasm_codec.specs.formats.Combinators.{u32, items}
use Rattle.wasm_codec.proofs.FormatLaws.{Lawful-u32}
use Rattle.wasm_instructions.specs.formats.Operands.{handle_clause}
use Rattle.wasm_modules.proofs.SkippingLaws.{read_skips, fault_skips, first_fails, passes_both, resume_throw_pass, resume_throw_fail}
use Rattle.wasm_modules.proofs.order.data_uses.skip_resume_throw.Goals as goal

pub returns-in_err-u32 : goal.returns-in_err-u32
returns-in_err-u32 c =
    let p = err_from_is_err_and c.from_residual.result c.from_residual.ensures.1 in
    rw (p.1, p.2) (resume_throw_fail c.args.cursor.now c.u32.new.self c.u32.new.self c.in_err-u32.field-0.0 (fault_skips (λ n. tt {0}) Lawful-u32 c.args.cursor.now c.u32.new.self c.u32.new.self c.in_err-u32.field-0.0 c.in_err-u32.ensures.reads))

pub returns-in_err-u32-2 : goal.returns-in_err-u32-2
returns-in_err-u32-2 c =
    let p = err_from_is_err_and c.from_residual-in_err-u32-2.result c.from_residual-in_err-u32-2.ensures.1 in
    rw (p.1, p.2) (resume_throw_pass c.args.cursor.now c.u32.new.self c.u32-2.new.self (Err c.in_err-u32-2.field-0.0) (read_skips (λ n. tt {0}) Lawful-u32 c.args.cursor.now c.u32.new.self c.in_ok-u32.field-0 c.in_ok-u32.ensures.reads) (first_fails u32 (items handle_clause) c.u32.new.self c.u32-2.new.self c.u32-2.new.self c.in_err-u32-2.field-0.0 (fault_skips (λ n. tt {0}) Lawful-u32 c.u32.new.self c.u32-2.new.self c.u32-2.new.self c.in_err-u32-2.field-0.0 c.in_err-u32-2.ensures.reads)))

pub returns : goal.returns
returns c = resume_throw_pass c.args.cursor.now c.u32.new.self c.skip_list.new.cursor c.skip_list.result (read_skips (λ n. tt {0}) Lawful-u32 c.args.cursor.now c.u32.new.self c.in_ok-u32.field-0 c.in_ok-u32.ensures.reads) (passes_both u32 (items handle_clause) c.u32.new.self c.u32-2.new.self c.skip_list.new.cursor c.skip_list.result (read_skips (λ n. tt {0}) Lawful-u32 c.u32.new.self c.u32-2.new.self c.in_ok-u32-2.field-0 c.in_ok-u32-2.ensures.reads) c.skip_list.ensures)

use Rattle.std.proofs.lemmas.Result.{err_from_is_err_and}
use Rattle.wasm_codec.proofs.FormatLaws.{Lawful-u32}
use Rattle.wasm_modules.proofs.SkippingLaws.{read_skips, fault_skips, resume_pass, resume_fail}
use Rattle.wasm_modules.proofs.order.data_uses.skip_resume.Goals as goal

pub returns-in_err-u32 : goal.returns-in_err-u32
returns-in_err-u32 c =
    let p = err_from_is_err_and c.from_residual.result c.from_residual.ensures.1 in
    rw (p.1, p.2) (resume_fail c.args.cursor.now c.u32.new.self c.u32.new.self c.in_err-u32.field-0.0 (fault_skips (λ n. tt {0}) Lawful-u32 c.args.cursor.now c.u32.new.self c.u32.new.self c.in_err-u32.field-0.0 c.in_err-u32.ensures.reads))

pub returns : goal.returns
returns c = resume_pass c.args.cursor.now c.u32.new.self c.skip_list.new.cursor c.skip_list.result (read_skips (λ n. tt {0}) Lawful-u32 c.args.cursor.now c.u32.new.self c.in_ok-u32.field-0 c.in_ok-u32.ensures.reads) c.skip_list.ensures

use Rattle.std.proofs.Common.{Some, subst, arith}
use Rattle.wasm_codec.specs.Scanning.{Scans}
use Rattle.wasm_instructions.specs.formats.Instructions.{instruction}
use Rattle.wasm_externals.proofs.ScannedEntities.{expr_scanned}
use Rattle.wasm_externals.proofs.expressions.scan_expr.Goals as goal

pub returns : goal.returns
returns c =
    let bytes = c.args.bytes.now in
    let one = subst (λ s. Scans instruction bytes (Some s)) c.in-Some-Minimal.field-0-is c.in-Some-Minimal.ensures.scans in
    expr_scanned bytes c.in-Some-Minimal.count c.if-bytes-lt32.false (omega (arith, c.if-count-bytes.false)) c.if-bytes-count-ne11.false one

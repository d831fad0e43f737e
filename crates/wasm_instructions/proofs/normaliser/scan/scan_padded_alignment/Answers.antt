use Rattle.std.proofs.Common.{Some, subst, arith}
use Rattle.wasm_codec.specs.declared.rewriter.scan.Scanned.{Scanned}
use Rattle.wasm_codec.specs.formats.Combinators.{u32}
use Rattle.wasm_codec.specs.Scanning.{Scans}
use Rattle.wasm_instructions.proofs.PaddedLoads.{padded_alignment}
use Rattle.wasm_instructions.proofs.normaliser.scan.scan_padded_alignment.Goals as goal

pub returns : goal.returns
returns c =
    let bytes = c.args.bytes.now in
    let n = c.in-Padded in
    padded_alignment bytes n.signed n.start n.more c.kept_digits.result (omega arith) (omega arith) (omega arith) c.if-start-ne0.false c.if-kept_digits-ne1.false c.kept_digits.ensures (subst (λ (s : Scanned). Scans u32 bytes (Some s)) n.is c.in_ok-scanned.ensures)

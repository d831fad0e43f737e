use Rattle.std.proofs.Common.{◌≡◌, ◌-◌, length, take, drop, length-drop, arith}
use Rattle.std.proofs.lemmas.List.{take_all}
use Rattle.wasm_codec.specs.formats.Grammar.{IsBytes}
use Rattle.wasm_codec.proofs.ListReading.{IsBytes-from}
use Rattle.wasm_code.proofs.CodeBodyLaws.{short_found}
use Rattle.wasm_code.proofs.code.normaliser.scan_short_body.Goals as goal

pub returns-then-begins_run : goal.returns-then-begins_run
returns-then-begins_run c =
    let fits : IsBytes c.args.bytes.now = IsBytes-from c.args.bytes.now (λ i. omega (arith, c.type_inv.bytes i)) in
    let calls = take (length c.args.bytes.now - 2) (drop 2 c.args.bytes.now) in
    let all : calls ≡ drop 2 c.args.bytes.now = take_all (length c.args.bytes.now - 2) (drop 2 c.args.bytes.now) (omega (arith, length-drop 2 c.args.bytes.now)) in
    short_found c.args.bytes.now calls (c.from-count.result - 1) fits (omega (arith, c.if-bytes-lt2.false)) (omega (arith, c.from-count.ensures, c.if-bytes-eq0.false)) (omega (arith, c.if-bytes-ne0.false)) (omega (arith, c.from-count.ensures, c.if-bytes-eq0.false, c.if-bytes-gt-SHORT_BODY.false)) all (c.begins_run.ensures c.if-begins_run.true)

use Rattle.std.proofs.Common.{◌≡◌, ◌∙◌, ◌<◌, ◌≤◌, ℕ, List, Some, get_or, take, length, ap, subst, refl, arith}
use Rattle.std.proofs.lemmas.List.{length-take}
use Rattle.wasm_codec.specs.Places.{Place}
use Rattle.wasm_codec.specs.declared.rewriter.scan.Scanned.TheVariants as scanned
use Rattle.wasm_codec.specs.Scanning.{Scans}
use Rattle.wasm_instructions.specs.formats.Instructions.{instruction}
use Rattle.wasm_modules.proofs.DataUseLaws.{scanned_plain}
use Rattle.wasm_modules.proofs.order.data_uses.skip_scanned_call.Goals as goal

pub returns-clause-skips : goal.returns-clause-skips
returns-clause-skips c done =
    let old = c.args.cursor.now in
    let here : c.fork.result.left ≡ old.left = ap (λ (p : Place). p.left) c.fork.ensures.place in
    let ahead : c.in-Ok.ahead.now ≡ take 16 old.left = c.in-Ok.ensures.ok.0 ∙ ap (take 16) here in
    let scans : Scans instruction (take 16 old.left) (Some (scanned.Minimal c.in-Some-Minimal.count)) = subst (λ (l : List ℕ). Scans instruction l (Some (scanned.Minimal c.in-Some-Minimal.count))) ahead (rw c.in-Some-Minimal.field-0-is at c.in-Some-Minimal.ensures.scans) in
    let long : 16 ≤ length old.left = omega (arith, c.in-Ok.ensures.enough, ap (length {A = ℕ}) here) in
    let head : get_or (take 16 old.left) 0 0 < 0xfb = omega (arith, c.if-ahead-ge-FIRST_PREFIX.false, ap (λ (l : List ℕ). get_or l 0 0) ahead) in
    scanned_plain old c.take-2.new.self (get_or (take 16 old.left) 0 0) c.in-Some-Minimal.count c.fork.ensures.bytes refl head long (omega (arith, scans.0, length-take 16 old.left)) scans.1.0 scans.1.1 (ap (λ (p : Place). p.left) c.in-Ok-take.ensures.ok.1)

pub returns-in_default-take-clause-stays : goal.returns-in_default-take-clause-stays
returns-in_default-take-clause-stays c =
    let scans = rw c.in-Some-Minimal.field-0-is at c.in-Some-Minimal.ensures.scans in
    let here : c.fork.result.left ≡ c.args.cursor.now.left = ap (λ (p : Place). p.left) c.fork.ensures.place in
    let ahead : c.in-Ok.ahead.now ≡ take 16 c.args.cursor.now.left = c.in-Ok.ensures.ok.0 ∙ ap (take 16) here in
    let within : c.in-Some-Minimal.count ≤ length c.in-Ok.ahead.now = scans.0 in
    λ same. absurd (omega (arith, c.in_default-take.ensures.err.1, within, ap (length {A = ℕ}) ahead, length-take 16 c.args.cursor.now.left))

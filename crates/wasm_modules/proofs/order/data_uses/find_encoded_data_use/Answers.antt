use Rattle.std.proofs.Common.{◌-◌, None, length, take, drop, refl, ap, arith}
use Rattle.std.proofs.lemmas.List.{length-drop, take_all}
use Rattle.wasm_codec.specs.Places.{Place}
use Rattle.wasm_modules.proofs.DataUseLaws.{behind_count, no_count, no_body, search_skips, search_goes_on, search_finds, search_ends}
use Rattle.wasm_modules.proofs.order.data_uses.find_encoded_data_use.Goals as goal
use Rattle.wasm_modules.proofs.order.data_uses.find_encoded_data_use.Goals.{then-len-ahead+in_ok-instruction+in_default-2, else-len-ahead}

pub returns-in_default : goal.returns-in_default
returns-in_default c = no_count c.args.section.now c.new-cursor.result c.u32.new.self c.in_default.field-0 None (ap (λ (p : Place). p.left) c.new-cursor.ensures) c.in_default.ensures.reads c.in_default.ensures.err

pub loop-body-init : goal.loop-body-init
loop-body-init c = record { searching = behind_count c.args.section.now c.new-cursor.result c.u32.new.self c.in-Ok.count c.len_from_data_opcode-ahead.result (ap (λ (p : Place). p.left) c.new-cursor.ensures) c.in-Ok.ensures.reads c.len_from_data_opcode-ahead.ensures.clear }

pub returns-in_default-body : goal.returns-in_default-body
returns-in_default-body c = no_body c.args.section.now c.loop-body.cursor c.body.new.self c.in-Ok.count c.loop-body.body c.loop-body.ahead c.loop-body.invariant.searching c.loop-body-test.true c.body.new.self c.in_default-body.field-0 None c.in_default-body.ensures.reads c.in_default-body.ensures.err

pub returns-in-Some : goal.returns-in-Some
returns-in-Some c =
    search_finds c.args.section.now c.loop-body.cursor c.body.new.self c.in-Ok.count c.loop-body.body c.loop-body.ahead c.loop-body.invariant.searching c.loop-body-test.true c.in-Ok-body.code.left c.in-Ok-body.ensures.reads c.in-Some.instruction (record { body = c.loop-body.body; instruction = c.in-Some.instruction }) (rw c.in-Some.is at c.in_ok-instruction.ensures) refl refl

pub loop-body-preserved : goal.loop-body-preserved
loop-body-preserved c =
    elim c.if-len-ahead.branch [
      | then-len-ahead+in_ok-instruction+in_default-2 w ↦ record {
        searching = rw w.ahead-is (search_goes_on c.args.section.now c.loop-body.cursor c.body.new.self c.in-Ok.count c.loop-body.body c.loop-body.ahead c.loop-body.invariant.searching c.loop-body-test.true c.in-Ok-body.code.left c.in-Ok-body.ensures.reads w.len_from_data_opcode-ahead-then-len-ahead.result w.saturating_sub-from.result (take (length c.args.section.now - w.saturating_sub-from.result) (drop w.saturating_sub-from.result c.args.section.now)) (rw w.in_default-2.is at w.in_ok-instruction.ensures) (omega (arith, w.saturating_sub-from.ensures, w.len-then-len-ahead.ensures)) (take_all (length c.args.section.now - w.saturating_sub-from.result) (drop w.saturating_sub-from.result c.args.section.now) (omega (arith, length-drop w.saturating_sub-from.result c.args.section.now))) w.len_from_data_opcode-ahead-then-len-ahead.ensures.clear);
      }
      | else-len-ahead w ↦ record {
        searching = rw w.ahead-is (search_skips c.args.section.now c.loop-body.cursor c.body.new.self c.in-Ok.count c.loop-body.body c.loop-body.ahead c.loop-body.invariant.searching c.loop-body-test.true c.in-Ok-body.code.left c.in-Ok-body.ensures.reads (omega (arith, c.len.ensures, w.if-len-ahead.false)));
      }
    ]

pub returns : goal.returns
returns c = search_ends c.args.section.now c.loop-body.cursor c.in-Ok.count c.loop-body.body c.loop-body.ahead c.loop-body.invariant.searching (omega (arith, c.loop-body-test.false))

use Rattle.std.proofs.Common.{rules, arith, ◌≡◌, length, ap}
use Rattle.std.proofs.lemmas.List.{nil_from_length}
use Rattle.std.proofs.lemmas.Str.Pattern.{split_parts}
use Rattle.nosgrivel_c.proofs.StripLaws.{next_listed, last_listed, all_listed}
use Rattle.nosgrivel_c.proofs.strip.list_patterns.Goals as goal

pub loop-part-preserved : goal.loop-part-preserved
loop-part-preserved c =
    let l = c.loop-part in
    let cut = rw c.in-Some.is at (split_parts 0 l.text.now c.split_once.result c.split_once.ensures.cases (omega arith)) in
    record {
      listed = next_listed c.args.text.now l.text.now c.in-Some.part.now c.in-Some.rest.now l.patterns.items c.push.new.self.items c.new.result l.invariant.listed cut.0 cut.1 c.new.ensures c.in_ok-push.ensures.items;
      is_text = search rules;
    }

pub returns-then-is_empty : goal.returns-then-is_empty
returns-then-is_empty c =
    let empty : length c.loop-part.text.now ≡ 0 = grind arith in
    all_listed c.args.text.now c.loop-part.text.now c.loop-part.patterns.items c.loop-part.invariant.listed (nil_from_length c.loop-part.text.now empty)

pub returns : goal.returns
returns c =
    let l = c.loop-part in
    let free = rw c.in_default.is at (split_parts 0 l.text.now c.split_once.result c.split_once.ensures.cases (omega arith)) in
    let some : length l.text.now ≡ 0 → ⊥ = λ e. grind arith in
    last_listed c.args.text.now l.text.now l.patterns.items c.push-2.new.self.items c.new-2.result l.invariant.listed free (λ e. some (ap length e)) c.new-2.ensures c.in_ok-push-2.ensures.items

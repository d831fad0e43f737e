use Rattle.std.proofs.Common.{rules, arith}
use Rattle.std.proofs.lemmas.Str.Pattern.{split_parts}
use Rattle.wasm_modules.proofs.PatternLaws.{step_matches, step_found, step_none, end_yes, end_no}
use Rattle.wasm_modules.proofs.selection.matches_some_end.Goals as goal

pub returns-in_default-split_once-clause-no : goal.returns-in_default-split_once-clause-no
returns-in_default-split_once-clause-no c =
    let l = c.loop-piece in
    let cut = rw c.in-Some.is at (split_parts 42 l.pattern.now c.split_once.result c.split_once.ensures.cases (omega arith)) in
    λ e m. step_none l.pattern.now c.in-Some.piece.now c.in-Some.rest.now l.name.now cut.0 cut.1 (rw c.in_default-split_once.is at c.split_once-in-Some.ensures.cases) (l.invariant.only m)

pub loop-piece-preserved : goal.loop-piece-preserved
loop-piece-preserved c =
    let l = c.loop-piece in
    let cut = rw c.in-Some.is at (split_parts 42 l.pattern.now c.split_once.result c.split_once.ensures.cases (omega arith)) in
    let around = c.in-Some-split_once.ensures.cases in
    record {
      back = λ m. l.invariant.back (step_matches l.pattern.now c.in-Some.piece.now c.in-Some.rest.now l.name.now _ c.in-Some-split_once.after.now cut.0 cut.1 around m);
      only = λ m. step_found l.pattern.now c.in-Some.piece.now c.in-Some.rest.now l.name.now _ c.in-Some-split_once.after.now cut.0 cut.1 around (l.invariant.only m);
      pattern_is_text = search rules;
      name_is_text = search rules;
    }

pub returns-clause-yes : goal.returns-clause-yes
returns-clause-yes c =
    let l = c.loop-piece in
    let plain = rw c.in_default.is at (split_parts 42 l.pattern.now c.split_once.result c.split_once.ensures.cases (omega arith)) in
    λ e. l.invariant.back (end_yes c.ends_with.result l.pattern.now l.name.now plain c.ends_with.ensures.cases e)

pub returns-clause-no : goal.returns-clause-no
returns-clause-no c =
    let l = c.loop-piece in
    let plain = rw c.in_default.is at (split_parts 42 l.pattern.now c.split_once.result c.split_once.ensures.cases (omega arith)) in
    λ e m. end_no c.ends_with.result l.pattern.now l.name.now plain c.ends_with.ensures.cases e (l.invariant.only m)

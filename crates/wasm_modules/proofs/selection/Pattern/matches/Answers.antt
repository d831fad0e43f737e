use Rattle.std.proofs.Common.{sym, ◌∙◌, arith}
use Rattle.std.proofs.lemmas.Str.Pattern.{split_parts}
use lib.Pointwise.{bytes_decides}
use Rattle.wasm_modules.proofs.PatternLaws.{plain_matches, plain_found, begun_matches, begun_found, begun_none}
use Rattle.wasm_modules.proofs.selection.Pattern.matches.Goals as goal

pub returns-in-None-clause-yes : goal.returns-in-None-clause-yes
returns-in-None-clause-yes c =
    let plain = rw c.in-None.is at (split_parts 42 c.args.self.text.now c.split_once.result c.split_once.ensures.cases (omega arith)) in
    λ e. plain_matches c.args.self.text.now c.args.name.now plain ((bytes_decides c.args.name.now c.args.self.text.now).0 (sym c.eq.ensures ∙ e))

pub returns-in-None-clause-no : goal.returns-in-None-clause-no
returns-in-None-clause-no c =
    let plain = rw c.in-None.is at (split_parts 42 c.args.self.text.now c.split_once.result c.split_once.ensures.cases (omega arith)) in
    λ e m.
    let same = (bytes_decides c.args.name.now c.args.self.text.now).1 (plain_found c.args.self.text.now c.args.name.now plain m) in
    absurd cc

pub returns-in-Some-strip_prefix-clause-yes : goal.returns-in-Some-strip_prefix-clause-yes
returns-in-Some-strip_prefix-clause-yes c =
    let cut = rw c.in-Some.is at (split_parts 42 c.args.self.text.now c.split_once.result c.split_once.ensures.cases (omega arith)) in
    λ e. begun_matches c.args.self.text.now c.in-Some.beginning.now c.in-Some.rest.now c.args.name.now c.in-Some-strip_prefix.end.now cut.0 cut.1 c.in-Some-strip_prefix.ensures.cases (c.matches_some_end.ensures.yes e)

pub returns-in-Some-strip_prefix-clause-no : goal.returns-in-Some-strip_prefix-clause-no
returns-in-Some-strip_prefix-clause-no c =
    let cut = rw c.in-Some.is at (split_parts 42 c.args.self.text.now c.split_once.result c.split_once.ensures.cases (omega arith)) in
    λ e m. c.matches_some_end.ensures.no e (begun_found c.args.self.text.now c.in-Some.beginning.now c.in-Some.rest.now c.args.name.now c.in-Some-strip_prefix.end.now cut.0 cut.1 c.in-Some-strip_prefix.ensures.cases m)

pub returns-in-None-strip_prefix-clause-no : goal.returns-in-None-strip_prefix-clause-no
returns-in-None-strip_prefix-clause-no c =
    let cut = rw c.in-Some.is at (split_parts 42 c.args.self.text.now c.split_once.result c.split_once.ensures.cases (omega arith)) in
    λ e m. begun_none c.args.self.text.now c.in-Some.beginning.now c.in-Some.rest.now c.args.name.now cut.0 cut.1 c.in-None-strip_prefix.ensures.cases m

use Rattle.std.proofs.Common.{ℕ, List, [], Result, Ok, Err, IfOk, OnOk}
use Rattle.std.proofs.lemmas.Iterator.{YieldsList-from_slice}
use Rattle.std.proofs.lemmas.Iterator.Consumers.{YieldsList-at, YieldsList-from_copied}
use Rattle.wasm_codec.specs.declared.encode.EncodeError.{EncodeError}
use Rattle.wasm_encoder.specs.CodeSections.{FunctionStandsFor, body_of, made}
use Rattle.callers.proofs.held_lists.restarted.Goals as goal

if_made : (P : List ℕ → Type 0) (function : List ℕ) (result : Result (Unit {0}) EncodeError) → IfOk (made function result) P → OnOk result (P function)
if_made P function (Ok x) holds = holds
if_made P function (Err e) holds = tt

pub returns : goal.returns
returns c =
    let given = YieldsList-from_copied (YieldsList-at c.copied.ensures.source (YieldsList-from_slice c.args.locals.now c.iter.ensures.rest)) in
    if_made (λ f. FunctionStandsFor f (body_of c.args.locals.now [])) c.restart.new.self c.restart.result (c.restart.ensures.restarts.2.makes.stands c.args.locals.now (rw c.restart.ensures.restarts.1 given))

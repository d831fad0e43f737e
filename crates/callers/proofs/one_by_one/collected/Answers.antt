use Rattle.std.proofs.Common.{◌≡◌, ℕ, List, [], ◌∷◌, ◌++◌, Option, Some, Result, Ok, Err, refl, sym, subst, ap, ◌∙◌}
use Rattle.std.proofs.lemmas.List.{map_push}
use Rattle.wasm_codec.specs.declared.reader.DecodeError.{DecodeError}
use Rattle.wasm_instructions.specs.formats.Instructions.{Instruction, Instructions, instruction}
use Rattle.wasm_encoder.specs.ItemReading.{GaveItems, GivesNext, Reading, values_of}
use Rattle.callers.proofs.one_by_one.collected.Goals as goal

-- what a call gives for an instruction
abbrev GivesCall : Reading → Result (ℕ × Instruction) DecodeError → Reading → Type 0
GivesCall here given next = GivesNext (λ (call : Instruction). call) instruction here (Some given) next

-- one item more was given
gave_more : (items : List (ℕ × Instruction)) (start here next : Reading) (item : ℕ × Instruction) → GaveItems (λ (call : Instruction). call) instruction start items here → GivesCall here (Ok item) next → GaveItems (λ (call : Instruction). call) instruction start (items ++ item ∷ []) next
gave_more [] start here next item same step = (next, subst (λ (r : Reading). GivesCall r (Ok item) next) (sym same) step, refl)
gave_more (first ∷ items) start here next item run step = (run.0, run.1, gave_more items run.0 here next item run.2 step)

pub loop-next-preserved : goal.loop-next-preserved
loop-next-preserved c =
    let inv = c.loop-next.invariant.2 in
    let item : ℕ × Instruction = (c.in-Ok.field-0-0, c.in-Ok.call) in
    let step = subst (λ (given : Result (ℕ × Instruction) DecodeError). GivesCall c.loop-next.reader given c.next.new.self) c.in-Ok.is c.in-Some.ensures.steps in
    (tt, tt, (inv.0 ++ item ∷ [], gave_more inv.0 _ c.loop-next.reader c.next.new.self item inv.1 step, map_push (λ (it : ℕ × Instruction). it.1) inv.0 item ∙ ap (λ (calls : List Instruction). calls ++ c.in-Ok.call ∷ []) inv.2 ∙ sym c.in_ok-push-in-Ok.ensures.items))

pub returns-in-Err-clause-refused : goal.returns-in-Err-clause-refused
returns-in-Err-clause-refused c =
    let inv = c.loop-next.invariant.2 in
    let step = subst (λ (given : Result (ℕ × Instruction) DecodeError). GivesCall c.loop-next.reader given c.next.new.self) c.in-Err.is c.in-Some.ensures.steps in
    (rw c.to_end-reader.ensures.start at c.to_end-reader.ensures.gives).refused inv.0 c.in-Err.error c.next.new.self (c.loop-next.reader, inv.1, step)

pub returns-clause-given : goal.returns-clause-given
returns-clause-given c =
    let inv = c.loop-next.invariant.2 in
    subst (λ (calls : List Instruction). Instructions c.args.bytes.now calls) inv.2 ((rw c.to_end-reader.ensures.start at c.to_end-reader.ensures.gives).whole inv.0 c.next.new.self (c.loop-next.reader, inv.1, c.in_default.ensures.steps))

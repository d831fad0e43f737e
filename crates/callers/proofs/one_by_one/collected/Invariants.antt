use Rattle.std.proofs.Common.{◌≡◌, ℕ, false, List}
use Rattle.wasm_instructions.specs.formats.Instructions.{Instruction, instruction}
use Rattle.wasm_encoder.specs.ItemReading.{GaveItems, starting, values_of}
use Rattle.callers.proofs.one_by_one.collected.Given as goal

abbrev pub invariant-loop-next : goal.invariant-loop-next
invariant-loop-next l =
    (goal.iterator-loop-next).can_next l.reader × (goal.iterator-loop-next).is_finite l.reader
    × ((items : List (ℕ × Instruction)) × GaveItems (λ (call : Instruction). call) instruction (starting 0 l.fn.bytes false) items l.reader × (values_of (λ (call : Instruction). call) items ≡ l.calls.items))

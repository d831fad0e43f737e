-- Chains of calls of the sink.
use Rattle.std.proofs.Common.{◌≡◌, ℕ, List, [], ◌∷◌, ◌++◌, sym, ap, ◌∙◌, append_assoc}
use Rattle.std.proofs.lemmas.List.{append-nil}
use Rattle.wasm_sink.specs.declared.sink.InstructionSink.{InstructionSink}
use Rattle.wasm_instructions.specs.formats.Instructions.{Instruction, instruction, instructions_bytes}
use Rattle.wasm_sink.specs.Sink.{bytes_behind, Chain}

-- a chain of calls appends their bytes
chain_bytes : {Z : Type 0} (start : InstructionSink Z) (calls : List Instruction) (finish : InstructionSink Z) → Chain start calls finish → bytes_behind finish ≡ bytes_behind start ++ instructions_bytes calls
chain_bytes start [] finish same = same ∙ sym (append-nil (bytes_behind start))
chain_bytes start (call ∷ calls) finish chain =
    chain_bytes chain.0 calls finish chain.2
    ∙ ap (λ (t : List ℕ). t ++ instructions_bytes calls) chain.1
    ∙ append_assoc (bytes_behind start) (instruction.bytes call) (instructions_bytes calls)

-- what appends the bytes of the calls to equal bytes leaves the bytes that a chain of them leaves
pub same_as_chain : {Z : Type 0} (entry : InstructionSink Z) (calls : List Instruction) (bytes : List ℕ) → bytes ≡ bytes_behind entry ++ instructions_bytes calls → (start finish : InstructionSink Z) → bytes_behind start ≡ bytes_behind entry → Chain start calls finish → bytes ≡ bytes_behind finish
same_as_chain entry calls bytes wrote start finish same chain =
    wrote ∙ sym (chain_bytes start calls finish chain ∙ ap (λ (t : List ℕ). t ++ instructions_bytes calls) same)

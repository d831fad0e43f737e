-- The laws of instructions that are rewritten: an opcode, and then operands of its kind.
use Rattle.std.proofs.Common.{◌≡◌, true, ℕ, List, ◌++◌, Option, Some, Result, Ok, Err, refl, sym, ap, ◌∙◌, append_assoc}
use Rattle.wasm_codec.specs.declared.reader.cursor.Fault.{Fault}
use Rattle.wasm_codec.specs.declared.reader.cursor.Fault.TheVariants as faults
use Rattle.wasm_codec.specs.Places.{Place}
use Rattle.wasm_codec.specs.Reading.{◌>>=◌}
use Rattle.wasm_codec.specs.Inputs.{Took}
use Rattle.wasm_codec.specs.Rewriter.{Rewriting, Rewrites}
use Rattle.wasm_codec.proofs.Laws.{bind_some, some_is}
use Rattle.wasm_codec.proofs.RewriterLaws.{is_after, after_is}
use Rattle.wasm_instructions.specs.declared.table.opcode.Opcode.{Opcode}
use Rattle.wasm_instructions.specs.declared.table.opcode.Kind.{Kind}
use Rattle.wasm_instructions.specs.declared.table.opcode.Kind.TheVariants as kinds
use Rattle.wasm_instructions.specs.declared.table.call.Operands.{Operands}
use Rattle.wasm_instructions.specs.declared.table.call.Operands.TheVariants as operands
use Rattle.wasm_instructions.specs.formats.Opcodes.{opcode_kind}
use Rattle.wasm_instructions.specs.formats.Instructions.{call}
use Rattle.wasm_instructions.specs.Instructions.{kind_of}
use Rattle.wasm_instructions.specs.formats.Instructions.{opcode, operands_format, instruction}

made_kind : {A : Type 0} (k : Kind) (read : Option (A × Place)) (make : A × Place → Operands × Place) (o : Operands) (q : Place) → (read >>= λ a. Some (make a)) ≡ Some (o, q) → ((a : A × Place) → kind_of (make a).0 ≡ k) → kind_of o ≡ k
made_kind k read make o q e each =
    let x = bind_some read (λ a. Some (make a)) (o, q) e in
    sym (ap (λ (r : Operands × Place). kind_of r.0) (some_is (make x.0) (o, q) x.2)) ∙ each x.0

-- what is read as operands of a kind is of the kind
pub of_kind : (k : Kind) (p : Place) (o : Operands) (q : Place) → (operands_format k).at p ≡ Some (o, q) → kind_of o ≡ k
unfolding operands_format
of_kind kinds.None p o q e = sym (ap (λ (r : Operands × Place). kind_of r.0) (some_is (operands.None, p) (o, q) e))
of_kind k p o q e = made_kind k _ _ o q e (λ a. refl)

pub after_opcode : (op : Opcode) (k : Kind) (old mid new : Rewriting) (result : Result (Unit {0}) Fault) → Took true opcode old mid op → opcode_kind op ≡ Some k → Rewrites (operands_format k) mid new result → Rewrites instruction old new result
unfolding instruction
after_opcode op k old mid new (Err faults.Memory) g is none = none
after_opcode op k old mid new (Err (faults.Malformed m)) g is none = rw (g.read, is, none) refl
after_opcode op k old mid new (Ok done) g is e =
    let one = is_after (operands_format k) mid new e in
    let same : kind_of one.value ≡ k = of_kind k mid.place one.value new.place one.given.is_read in
    let whole : new.done ≡ old.done ++ (opcode.bytes op ++ (operands_format (kind_of one.value)).bytes one.value) =
    one.given.written ∙ ap (λ (t : List ℕ). t ++ (operands_format k).bytes one.value) g.written ∙ append_assoc old.done (opcode.bytes op) ((operands_format k).bytes one.value)
    ∙ ap (λ (j : Kind). old.done ++ (opcode.bytes op ++ (operands_format j).bytes one.value)) (sym same) in
    after_is instruction old new (call op one.value) (rw (g.read, is, one.given.is_read) refl) whole (one.given.rest ∙ g.rest)

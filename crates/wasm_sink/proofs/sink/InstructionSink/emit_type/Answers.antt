use Rattle.std.proofs.Common.{rules, refl, ℕ, List, ◌++◌, ◌∙◌, ap, sym}
use Rattle.std.proofs.lemmas.List.{append-nil}
use Rattle.wasm_types.specs.formats.Types.{val_type}
use Rattle.wasm_instructions.specs.formats.Instructions.{operands_format}
use Rattle.wasm_sink.proofs.WrittenCalls.{emitted, then_put}
use Rattle.wasm_sink.proofs.sink.InstructionSink.emit_type.Goals as goal

pub returns : goal.returns
unfolding operands_format
returns g c =
    let one_type = c.put_val_type.ensures.items ∙ ap (λ (k : List ℕ). c.put_u32.new.bytes.items ++ k) (sym (append-nil (val_type.bytes c.args.ty))) in
    (search (rules), record { emits = emitted _ _ _ _ _ _ c.requires.call c.without_prefix.ensures c.in_ok-calls.ensures.ok (then_put _ _ _ _ _ c.put_u32.ensures.items one_type) refl (search (rules)) (c.put_val_type.ensures.fits, tt) (search (rules)) (search (rules)) (search (rules)); unchanged = tt })

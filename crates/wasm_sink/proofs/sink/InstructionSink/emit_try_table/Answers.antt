use Rattle.std.proofs.Common.{rules, refl, sym}
use Rattle.wasm_instructions.specs.formats.Opcodes.{without_prefix}
use Rattle.wasm_instructions.specs.declared.table.call.Operands.TheVariants as operands
use Rattle.wasm_instructions.specs.Appending.{AppendsAll, before_bytes, after_bytes}
use Rattle.wasm_instructions.specs.formats.Instructions.{instruction, operands_format}
use Rattle.wasm_sink.proofs.WrittenCalls.{given, minimal_call}
use Rattle.wasm_sink.proofs.sink.InstructionSink.emit_try_table.Goals as goal

pub returns : goal.returns
unfolding AppendsAll before_bytes after_bytes instruction operands_format
returns g c =
    let ran = c.in_ok-append_list_call.ensures.ok in (
      search (rules),
      record {
        emits = record {
          wrote = (ran.0, ran.1, search (rules), minimal_call (without_prefix c.args.number) (operands.TryTable c.args.block_type ran.0) c.requires.call (search (rules)) ran.4 ran.3, ran.3);
          stands = λ xs yields. rw (sym (given g.I.Iterator.next_gives c.args.clauses ran.0 xs ran.1 yields)) (search (rules));
          same = refl;
          err = tt;
        };
        unchanged = tt;
      },
    )

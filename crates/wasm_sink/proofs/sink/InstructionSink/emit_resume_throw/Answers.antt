use Rattle.std.proofs.Common.{rules, refl, subst, sym, arith}
use Rattle.std.proofs.lemmas.Grind.{common_steps}
use Rattle.wasm_instructions.proofs.OpcodeLaws.{in_table_short}
use Rattle.wasm_instructions.specs.declared.table.opcode.Kind.TheVariants as kinds
use Rattle.wasm_instructions.specs.Instructions.{IsShort}
use Rattle.wasm_instructions.specs.formats.Opcodes.{without_prefix}
use Rattle.wasm_instructions.specs.declared.table.call.Operands.TheVariants as operands
use Rattle.wasm_instructions.specs.Appending.{AppendsAll, before_bytes, after_bytes}
use Rattle.wasm_instructions.specs.formats.Instructions.{instruction, operands_format}
use Rattle.wasm_sink.proofs.WrittenCalls.{given, minimal_call}
use Rattle.wasm_sink.proofs.sink.InstructionSink.emit_resume_throw.Goals as goal

pub append_list_call-requires-clause-short : goal.append_list_call-requires-clause-short
append_list_call-requires-clause-short g c = subst IsShort (sym c.without_prefix-op.ensures) (in_table_short (without_prefix c.args.number) kinds.ResumeThrow c.requires.call)

pub returns : goal.returns
unfolding AppendsAll before_bytes after_bytes instruction operands_format
returns g c =
    let ran = c.in_ok-append_list_call.ensures.ok in (
      search (rules),
      record {
        emits = record {
          wrote = (ran.0, ran.1, grind (arith, common_steps), minimal_call (without_prefix c.args.number) (operands.ResumeThrow c.args.first c.args.second ran.0) c.requires.call (search (rules)) ran.4 ran.3, ran.3);
          stands = λ xs yields. rw (sym (given g.I.Iterator.next_gives c.args.handlers ran.0 xs ran.1 yields)) (grind (arith, common_steps));
          same = refl;
          err = tt;
        };
        unchanged = tt;
      },
    )

use Rattle.std.proofs.Common.{rules, refl}
use Rattle.wasm_instructions.specs.formats.Opcodes.{without_prefix}
use Rattle.wasm_instructions.specs.declared.table.call.Operands.TheVariants as operands
use Rattle.wasm_sink.proofs.WrittenCalls.{minimal_call}
use Rattle.wasm_sink.proofs.sink.InstructionSink.emit_types.Goals as goal

pub returns : goal.returns
returns g c = (
  search (rules),
  record {
    emits = record {
      wrote = (search (rules), minimal_call (without_prefix c.args.number) (operands.Types c.args.types.now) c.requires.call tt c.in_ok-append_type_list.ensures.counted.1 c.in_ok-append_type_list.ensures.counted.0, search (rules));
      same = refl;
    };
    unchanged = tt;
  },
)

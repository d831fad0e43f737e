use Rattle.std.proofs.Common.{ap}
use Rattle.wasm_custom_sections.specs.CoreDumpSections.{BuiltStack}
use Rattle.wasm_custom_sections.specs.formats.CoreStacks.{frame_of}
use Rattle.wasm_custom_sections.proofs.CoreStackLaws.{adds_frame}
use Rattle.wasm_custom_sections.proofs.core_stacks.CoreDumpStackSection.frame.Goals as goal

pub returns-clause-adds : goal.returns-clause-adds
returns-clause-adds c =
    let frame = frame_of (c.args.instance_index, (c.args.function_index, (c.args.code_offset, (c.args.locals.now, c.args.stack.now)))) in
    adds_frame frame c.self.inside.frames c.args.self.now.frames c.add.new.self c.add.result (ap (λ (built : BuiltStack). built.frames) c.self.view_is) c.add.ensures.count c.add.ensures.bytes c.add.ensures.written c.add.ensures.err c.add.ensures.refused

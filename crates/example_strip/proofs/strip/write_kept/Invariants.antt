-- The bytes written so far are a module of the kept sections among those before.
use Rattle.std.proofs.Common.{take}
use Rattle.std.specs.Io.KnownBytes.{Appends}
use Rattle.wasm_encoder.specs.ModuleFormats.{raw_module}
use Rattle.wasm_encoder.specs.Sections.{all_parts_of}
use Rattle.example_strip.specs.Kept.{kept}
use Rattle.example_strip.proofs.strip.write_kept.Given as goal

abbrev pub invariant-loop-section : goal.invariant-loop-section
invariant-loop-section g l = Appends (g.W.Write.contents l.fn.writer) l.module (raw_module.bytes (kept (all_parts_of (take l.section-index l.sections))))

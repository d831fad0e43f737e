use Rattle.std.proofs.Common.{length}
use Rattle.wasm_codec.proofs.RewriterLaws.{Going}
use Rattle.wasm_sections.specs.formats.ModuleSections.{module_section}
use Rattle.wasm_modules.specs.Counting.{Shows}
use Rattle.wasm_modules.proofs.counting.rewrite_sections.Given as goal

abbrev pub invariant-loop-counting : goal.invariant-loop-counting
invariant-loop-counting g l = Going module_section l.fn.counting.rewriter l.counting.rewriter × Shows g.W.SectionWatcher.Sees g.W.SectionWatcher.Takes l.fn.counting.rewriter.place.left l.fn.watcher l.counting.rewriter.place.left l.watcher

abbrev pub decreases-loop-counting : goal.decreases-loop-counting
decreases-loop-counting g l = length l.counting.rewriter.place.left

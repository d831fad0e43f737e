use Rattle.std.proofs.Common.{◌≡◌, [], arith}
use Rattle.std.proofs.lemmas.List.{nil_from_length}
use Rattle.wasm_codec.proofs.RewriterLaws.{going, goes_on, all_gone, stops}
use Rattle.wasm_sections.proofs.ModuleSectionLaws.{module_section_is_lawful, module_section_takes}
use Rattle.wasm_sections.specs.formats.ModuleSections.{module_section}
use Rattle.wasm_modules.specs.Counting.{nothing, more}
use Rattle.wasm_modules.proofs.CountingLaws.{counted_section}
use Rattle.wasm_modules.proofs.counting.rewrite_sections.Goals as goal

pub loop-counting-init : goal.loop-counting-init
loop-counting-init g c = (going module_section c.args.counting.now.rewriter, nothing)

pub returns-in-Err-clause-rewrites : goal.returns-in-Err-clause-rewrites
returns-in-Err-clause-rewrites g c = rw c.new.ensures (stops module_section_is_lawful c.args.counting.now.rewriter c.loop-counting.counting.rewriter c.rewrite_section.new.self.rewriter c.rewrite_section.new.self.rewriter c.in-Err.fault c.len-left.result c.loop-counting.passed c.are_bytes.ensures c.loop-counting.invariant.0 (omega arith) c.len-left.ensures c.in-Err.ensures.rewrites)

pub loop-counting-smaller : goal.loop-counting-smaller
loop-counting-smaller g c = (goes_on module_section_is_lawful module_section_takes c.args.counting.now.rewriter c.loop-counting.counting.rewriter c.rewrite_section.new.self.rewriter c.are_bytes.ensures c.loop-counting.invariant.0 (omega arith) c.in-Ok.ensures.rewrites).fewer

pub loop-counting-preserved : goal.loop-counting-preserved
loop-counting-preserved g c =
    let going = (goes_on module_section_is_lawful module_section_takes c.args.counting.now.rewriter c.loop-counting.counting.rewriter c.rewrite_section.new.self.rewriter c.are_bytes.ensures c.loop-counting.invariant.0 (omega arith) c.in-Ok.ensures.rewrites).going in
    let section = counted_section c.loop-counting.counting.rewriter c.rewrite_section.new.self.rewriter c.saturating_sub-len.result c.in-Ok.counts c.are_bytes-in-loop-counting.ensures c.in-Ok.ensures.rewrites (omega arith) c.in-Ok.ensures.counts in
    (going, more c.loop-counting.invariant.1 (rw c.left.ensures at c.before-in-loop-counting.ensures.sees) section c.after.ensures.takes)

pub returns-clause-rewrites : goal.returns-clause-rewrites
returns-clause-rewrites g c =
    let none : c.loop-counting.counting.rewriter.place.left ≡ [] = nil_from_length c.loop-counting.counting.rewriter.place.left (omega arith) in
    (all_gone module_section c.args.counting.now.rewriter c.loop-counting.counting.rewriter c.loop-counting.invariant.0 none, none)

pub returns-clause-shows : goal.returns-clause-shows
returns-clause-shows g c =
    let none : c.loop-counting.counting.rewriter.place.left ≡ [] = nil_from_length c.loop-counting.counting.rewriter.place.left (omega arith) in
    rw (← none) c.loop-counting.invariant.1

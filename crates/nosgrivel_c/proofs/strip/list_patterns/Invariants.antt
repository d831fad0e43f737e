use Rattle.std.proofs.Common.{List, ◌++◌, length}
use denote.Text.{Utf8}
use denote.Shadow.{shadow}
use Rattle.nosgrivel_c.specs.Stripping.{Lists}
use Rattle.wasm_modules.specs.declared.selection.Pattern.{Pattern}
use Rattle.nosgrivel_c.proofs.strip.list_patterns.Given as goal

abbrev pub invariant-loop-part : goal.invariant-loop-part
invariant-loop-part l = record {
  listed : (more : List Pattern) → Lists l.text more → Lists l.fn.text (l.patterns.items ++ more);
  is_text : shadow (Utf8 l.text);
}

abbrev pub decreases-loop-part : goal.decreases-loop-part
decreases-loop-part l = length l.text

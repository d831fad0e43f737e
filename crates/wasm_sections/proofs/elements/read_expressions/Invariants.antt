use Rattle.wasm_codec.proofs.PlaceLists.{Passed}
use Rattle.wasm_externals.specs.formats.Expressions.{expr}
use Rattle.wasm_sections.proofs.elements.read_expressions.Given as goal
use Rattle.wasm_codec.specs.Places.{u32_at}

abbrev pub invariant-loop : goal.invariant-loop
invariant-loop l = Passed u32_at expr l.fn.cursor l.cursor l.count l.counter l.groups.items

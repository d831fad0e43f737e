use Rattle.wasm_codec.proofs.PlaceLists.{Passed}
use Rattle.wasm_code.specs.formats.CodeBodies.{local_group}
use Rattle.wasm_code.proofs.code.reader.read_locals.Given as goal
use Rattle.wasm_codec.specs.Places.{u32_at}

abbrev pub invariant-loop-index : goal.invariant-loop-index
invariant-loop-index l = Passed u32_at local_group l.fn.cursor l.cursor l.count l.index l.groups.items

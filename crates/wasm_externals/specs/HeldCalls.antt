-- The instructions that a constant expression holds (WebAssembly Core 3.0, Constant Expressions).
use Rattle.std.specs.Prelude.{List, [], ◌∷◌}
use Rattle.wasm_instructions.specs.formats.Instructions.{Instruction}
use Rattle.wasm_externals.specs.declared.const_expr.Calls.{Calls}
use Rattle.wasm_externals.specs.declared.const_expr.Calls.TheVariants.{One, Many}

-- The instructions as a list.
abbrev pub calls_of : Calls → List Instruction
calls_of (One alloc call) = call ∷ []
calls_of (Many calls) = calls

-- Calls that move a cursor over a value without keeping it.
use Rattle.std.specs.Prelude.{◌≡◌, false, List, ℕ, ◌++◌, Result, Ok, Err}
use Rattle.wasm_codec.specs.Places.{Place}
use Rattle.wasm_codec.specs.declared.reader.cursor.Fault.{Fault}
use Rattle.wasm_codec.specs.declared.reader.cursor.Fault.TheVariants as faults
use Rattle.wasm_codec.specs.formats.Combinators.{Format}
use Rattle.wasm_instructions.specs.formats.Instructions.{Instruction, instruction}
use Rattle.wasm_modules.specs.ModuleOrder.{names_data}

-- The call came to these bytes, and returned this. It may have run out of memory, but found nothing malformed.
abbrev pub ComesTo : {X : Type 0} → List ℕ → X → Place → Result X Fault → Type 0
ComesTo back x new (Ok given) = (new.left ≡ back) × (given ≡ x)
ComesTo back x new (Err (faults.Malformed m)) = ⊥
ComesTo back x new (Err faults.Memory) = Unit {0}

-- If the bytes left begin with the encoding of a value, the call moves behind it, and returns this of it.
abbrev pub Skips : {V X : Type 0} → (V → X) → Format V → Place → Place → Result X Fault → Type 0
Skips {V} view F old new result = (prefix back : List ℕ) (v : V) → old.left ≡ prefix ++ back → F.Encodes prefix v → ComesTo back (view v) new result

-- If the bytes left begin with an instruction, the call moves behind it, and it names no data segment.
abbrev pub SkipsPlain : Place → Place → Type 0
SkipsPlain old new = (prefix back : List ℕ) (i : Instruction) → old.left ≡ prefix ++ back → instruction.Encodes prefix i → (new.left ≡ back) × (names_data i ≡ false)

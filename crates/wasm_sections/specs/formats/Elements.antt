-- Element segments (WebAssembly Core 3.0, Element Section).
use Rattle.std.specs.Prelude.{ℕ, zero, suc, ◌==◌, ◌&&◌, Bool, true, false, if◌then◌else◌, List, Option, Some, None}
use Rattle.wasm_types.specs.declared.types.heap.AbstractHeapType.TheVariants as abstracts
use Rattle.wasm_types.specs.declared.types.heap.AbstractHeapType.{AbstractHeapType}
use Rattle.wasm_types.specs.declared.types.heap.HeapType.TheVariants.{Abstract, Concrete, Exact}
use Rattle.wasm_types.specs.declared.types.heap.RefType.{RefType}
use Rattle.wasm_types.specs.formats.Types.{ref_type}
use Rattle.wasm_instructions.specs.formats.Instructions.{Instruction}
use Rattle.wasm_codec.specs.formats.Combinators.{Format, never, ◌▷◌, ◌⊗◌, made, u32, items}
use Rattle.wasm_sections.specs.declared.elements.ElementMode.{ElementMode}
use Rattle.wasm_sections.specs.declared.elements.ElementMode.TheVariants as modes
use Rattle.wasm_sections.specs.declared.elements.Elements.{Elements}
use Rattle.wasm_sections.specs.declared.elements.Elements.TheVariants as held
use Rattle.wasm_sections.specs.declared.elements.Element.{Element}
use Rattle.wasm_externals.specs.formats.PartCombinators.{numbered}
use Rattle.wasm_externals.specs.formats.Expressions.{expr}

-- The type `funcref`.
abbrev pub funcref : RefType
funcref = record { nullable = true; heap_type = Abstract false abstracts.Func }

abbrev pub is_func : AbstractHeapType → Bool
is_func abstracts.Func = true
is_func ty = false

-- The type is `funcref`.
abbrev pub is_funcref : RefType → Bool
is_funcref r = elim r.heap_type [ Abstract shared ty ↦ elim shared [ true ↦ false | false ↦ r.nullable && is_func ty ] | Concrete n ↦ false | Exact n ↦ false ]

-- The element segment with this mode and these elements.
abbrev pub element : ElementMode → Elements → Element
element mode elements = record { mode = mode; elements = elements }

abbrev pub Exprs : Type 0
Exprs = List (List Instruction)

abbrev pub part_0 : Element → Option (List Instruction × List ℕ)
part_0 e = elim e.mode [ modes.Active table offset ↦ elim e.elements [ held.Functions fs ↦ Some (offset, fs) | held.Expressions ty es ↦ None ] | modes.Passive ↦ None | modes.Declared ↦ None ]

abbrev pub functions_part : Element → Option (List ℕ)
functions_part e = elim e.elements [ held.Functions fs ↦ Some fs | held.Expressions ty es ↦ None ]

abbrev pub part_2 : Element → Option (ℕ × (List Instruction × List ℕ))
part_2 e = elim e.mode [ modes.Active table offset ↦ elim e.elements [ held.Functions fs ↦ Some (table, (offset, fs)) | held.Expressions ty es ↦ None ] | modes.Passive ↦ None | modes.Declared ↦ None ]

abbrev pub part_4 : Element → Option (List Instruction × Exprs)
part_4 e = elim e.mode [ modes.Active table offset ↦ elim e.elements [ held.Functions fs ↦ None | held.Expressions ty es ↦ Some (offset, es) ] | modes.Passive ↦ None | modes.Declared ↦ None ]

abbrev pub expressions_part : Element → Option (RefType × Exprs)
expressions_part e = elim e.elements [ held.Functions fs ↦ None | held.Expressions ty es ↦ Some (ty, es) ]

abbrev pub part_6 : Element → Option (ℕ × (List Instruction × (RefType × Exprs)))
part_6 e = elim e.mode [ modes.Active table offset ↦ elim e.elements [ held.Functions fs ↦ None | held.Expressions ty es ↦ Some (table, (offset, (ty, es))) ] | modes.Passive ↦ None | modes.Declared ↦ None ]

-- The number of the form of a segment of function indexes.
abbrev pub functions_number : ElementMode → ℕ
functions_number modes.Passive = 1
functions_number (modes.Active table offset) = if table == 0 then 0 else 2
functions_number modes.Declared = 3

-- The number of the form of a segment of expressions.
abbrev pub expressions_number : RefType → ElementMode → ℕ
expressions_number ty modes.Passive = 5
expressions_number ty (modes.Active table offset) = if table == 0 && is_funcref ty then 4 else 6
expressions_number ty modes.Declared = 7

-- The number of the form that an element segment is written in.
abbrev pub element_number : Element → ℕ
element_number e = elim e.elements [ held.Functions fs ↦ functions_number e.mode | held.Expressions ty es ↦ expressions_number ty e.mode ]

-- Expressions of this type, as elements.
abbrev pub typed_of : RefType × Exprs → Elements
typed_of p = held.Expressions p.0 p.1

-- The type and the expressions, if the elements are expressions.
abbrev pub typed_part : Elements → Option (RefType × Exprs)
typed_part (held.Functions fs) = None
typed_part (held.Expressions ty es) = Some (ty, es)

-- The kind of elements, then function indexes.
-- elemkind ::= 0x00 ⇒ (ref func)
abbrev pub kind_and_functions : Format (List ℕ)
kind_and_functions = 0x00 ▷ items u32

-- An element segment in the form of this number, without the number.
abbrev pub element_form : ℕ → Format Element
element_form zero = made (λ p. element (modes.Active 0 p.0) (held.Functions p.1)) part_0 (expr ⊗ items u32)
element_form (suc zero) = made (λ fs. element modes.Passive (held.Functions fs)) functions_part kind_and_functions
element_form (suc (suc zero)) = made (λ p. element (modes.Active p.0 p.1.0) (held.Functions p.1.1)) part_2 (u32 ⊗ (expr ⊗ kind_and_functions))
element_form (suc (suc (suc zero))) = made (λ fs. element modes.Declared (held.Functions fs)) functions_part kind_and_functions
element_form (suc (suc (suc (suc zero)))) = made (λ p. element (modes.Active 0 p.0) (held.Expressions funcref p.1)) part_4 (expr ⊗ items expr)
element_form (suc (suc (suc (suc (suc zero))))) = made (λ p. element modes.Passive (held.Expressions p.0 p.1)) expressions_part (ref_type ⊗ items expr)
element_form (suc (suc (suc (suc (suc (suc zero)))))) = made (λ p. element (modes.Active p.0 p.1.0) (held.Expressions p.1.1.0 p.1.1.1)) part_6 (u32 ⊗ (expr ⊗ (ref_type ⊗ items expr)))
element_form (suc (suc (suc (suc (suc (suc (suc zero))))))) = made (λ p. element modes.Declared (held.Expressions p.0 p.1)) expressions_part (ref_type ⊗ items expr)
element_form n = never

-- An element segment.
-- elem ::= 0:u32 e_o:expr y*:list(funcidx) | 1:u32 elemkind y*:list(funcidx)
--       |  2:u32 x:tableidx e:expr elemkind y*:list(funcidx)
--       |  3:u32 elemkind y*:list(funcidx) | 4:u32 e_o:expr e*:list(expr) | 5:u32 rt:reftype e*:list(expr)
--       |  6:u32 x:tableidx e_o:expr rt:reftype e*:list(expr) | 7:u32 rt:reftype e*:list(expr)
-- For table 0 the third is a long form of the first, and with funcref the seventh of the fifth. Here function indexes
-- and expressions that refer to the same functions are different values.
unfoldable pub element_segment : Format Element
element_segment = numbered element_number element_form

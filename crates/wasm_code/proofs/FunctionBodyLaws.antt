-- The laws of function bodies whose instructions are still bytes.
use Rattle.std.proofs.Common.{◌≡◌, ℕ, List, [], Some, Err, refl, sym, ap, ◌∙◌}
use Rattle.wasm_codec.specs.Lawful.{IsLawful, IsLawfulBody}
use Rattle.wasm_codec.specs.Places.{Place, place, Reads}
use Rattle.wasm_codec.specs.declared.reader.cursor.Fault.{Fault}
use Rattle.wasm_codec.specs.formats.Bodies.{body_at, bytes_to_end}
use Rattle.wasm_codec.specs.formats.Combinators.{items}
use Rattle.wasm_codec.specs.formats.Grammar.{TakesBytes}
use Rattle.wasm_codec.proofs.BodyLaws.{Lawful-bytes_to_end, Lawful-sized, Lawful-then-body}
use Rattle.wasm_codec.proofs.FormatLaws.{Lawful-items, takes_bytes}
use Rattle.wasm_codec.proofs.SizedLaws.{both_read, fault_of_part, first_none, size_none, sized_none, sized_read}
use Rattle.wasm_types.specs.declared.types.value.ValType.{ValType}
use Rattle.wasm_code.specs.formats.CodeBodies.{function_body, function_bytes, local_group}
use Rattle.wasm_code.proofs.CodeBodyLaws.{CodeAt, Lawful-local-group}

pub Lawful-function-bytes : IsLawfulBody function_bytes
Lawful-function-bytes = Lawful-then-body (Lawful-items Lawful-local-group) (λ groups. Lawful-bytes_to_end)

pub Lawful-function-body : IsLawful function_body
unfolding function_body
Lawful-function-body = Lawful-sized Lawful-function-bytes

pub function_body_takes : TakesBytes function_body.Encodes
unfolding function_body
function_body_takes = takes_bytes Lawful-function-body refl

-- the laws of function bodies, for functions that name them
pub ruleset function_laws = (Lawful-function-body, function_body_takes, Lawful-function-bytes)

pub function_read : (old outer body mid : Place) (locals : List (ℕ × ValType)) → CodeAt old outer body → (items local_group).at body ≡ Some (locals, mid)
    → function_body.at old ≡ Some ((locals, mid.left), place mid.minimal outer.left)
unfolding function_body
function_read old outer body mid locals at l =
    let end = place mid.minimal [] in
    let inside = ap function_bytes.at (sym at.tells) ∙ both_read (items local_group) bytes_to_end body mid end locals mid.left l refl in
    sized_read function_bytes old outer end body.left (locals, mid.left) at.body inside refl

pub no_function_size : (old new last : Place) (fault : Fault) → Reads body_at old new (Err fault) → Reads function_body.at old last (Err fault)
unfolding function_body
no_function_size old new last fault none = fault_of_part body_at function_body.at old new old last fault none (λ e. size_none function_bytes old e)

pub no_function_locals : (old outer body new last : Place) (fault : Fault) → CodeAt old outer body → Reads (items local_group).at body new (Err fault) → Reads function_body.at old last (Err fault)
unfolding function_body
no_function_locals old outer body new last fault at none = fault_of_part (items local_group).at function_body.at body new old last fault none
    (λ e. sized_none function_bytes old outer body.left at.body (ap function_bytes.at (sym at.tells) ∙ first_none (items local_group) bytes_to_end body e))

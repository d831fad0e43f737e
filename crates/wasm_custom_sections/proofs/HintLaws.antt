-- The laws of branch hints, and what is written of them.
use Rattle.std.proofs.Common.{◌≡◌, ℕ, ◌+◌, ◌<◌, ◌^◌, Bool, true, false, List, [], ◌∷◌, ◌++◌, length, Some, Result, OnOk, OnErr, IfErr, refl, lit≤}
use Rattle.std.specs.List.{All, AllByRecursion}
use Rattle.wasm_codec.specs.declared.encode.EncodeError.{EncodeError}
use Rattle.wasm_codec.specs.Encoding.{IsCount, IsMinimal}
use Rattle.wasm_codec.specs.Lawful.{IsLawful, IsLawfulBody}
use Rattle.wasm_codec.specs.Leb128.{unsigned_leb128}
use Rattle.wasm_codec.specs.formats.Bodies.{sized}
use Rattle.wasm_codec.specs.formats.Combinators.{u32}
use Rattle.wasm_codec.specs.formats.Grammar.{TakesBytes}
use Rattle.wasm_codec.specs.formats.Numbers.{EncodesU32}
use Rattle.wasm_codec.proofs.BodyLaws.{Lawful-body, Lawful-sized}
use Rattle.wasm_codec.proofs.FormatLaws.{IsFound, Lawful-both, Lawful-items, Lawful-made, Lawful-one-byte, Lawful-u32, takes_bytes}
use Rattle.wasm_codec.proofs.NumberLaws.{written}
use Rattle.wasm_codec.proofs.AppendLaws.{three}
use Rattle.wasm_lists.specs.EncodedLists.{EncodedItems}
use Rattle.wasm_lists.proofs.EncodedListLaws.{all_in_range, counted_or, which}
use Rattle.wasm_lists.proofs.WrittenLists.{in_range_of}
use Rattle.wasm_custom_sections.specs.Gaining.{AddsNamed}
use Rattle.wasm_custom_sections.specs.declared.branch_hints.BranchHint.{BranchHint}
use Rattle.wasm_custom_sections.specs.declared.branch_hints.FunctionHints.{FunctionHints}
use Rattle.wasm_custom_sections.specs.formats.BranchHints.{branch_hint, function_hints, hint_of, hint_value, hints_of, value_code}
use Rattle.wasm_custom_sections.proofs.GainingLaws.{IsRefused, adds_value, by_recursion}

value_found : (likely : Bool) → IsFound value_code (false ∷ true ∷ []) likely
value_found false = (refl, refl)
value_found true = (refl, refl)

value_is_lawful : IsLawful hint_value
unfolding hint_value
value_is_lawful = Lawful-one-byte value_code (false ∷ true ∷ []) value_found

pub value_body_is_lawful : IsLawfulBody hint_value
value_body_is_lawful = Lawful-body value_is_lawful

pub hint_is_lawful : IsLawful branch_hint
unfolding branch_hint
hint_is_lawful = Lawful-made hint_of (λ h. Some (h.branch_func_offset, h.likely)) (λ p. refl) (Lawful-both Lawful-u32 (Lawful-sized value_body_is_lawful))

pub hint_takes : TakesBytes branch_hint.Encodes
unfolding branch_hint
hint_takes = takes_bytes hint_is_lawful refl

pub hints_are_lawful : IsLawful function_hints
unfolding function_hints
hints_are_lawful = Lawful-made hints_of (λ f. Some (f.function_index, f.hints)) (λ p. refl) (Lawful-both Lawful-u32 (Lawful-items hint_is_lawful))

pub hints_take : TakesBytes function_hints.Encodes
unfolding function_hints
hints_take = takes_bytes hints_are_lawful refl

-- ---- writing

value_there : (likely : Bool) → (sized hint_value).InRange likely
unfolding hint_value
value_there false = (refl, lit≤ tt)
value_there true = (refl, lit≤ tt)

hint_there : (h : BranchHint) → h.branch_func_offset < 2 ^ 32 → branch_hint.InRange h
unfolding branch_hint
hint_there h small = ((small, value_there h.likely), refl)

pub hint_written : (h : BranchHint) → IsMinimal EncodesU32 unsigned_leb128 h.branch_func_offset → IsMinimal branch_hint.Encodes branch_hint.bytes h
hint_written h i = written hint_is_lawful.minimal h (hint_there h (in_range_of u32 Lawful-u32 h.branch_func_offset i))

pub hint_appended : (h : BranchHint) (byte : ℕ) (old one more new : List ℕ) → hint_value.bytes h.likely ≡ byte ∷ [] → one ≡ old ++ unsigned_leb128 h.branch_func_offset → more ≡ one ++ unsigned_leb128 1 → new ≡ more ++ byte ∷ [] → new ≡ old ++ branch_hint.bytes h
unfolding branch_hint
hint_appended h byte old one more new is p q r = rw is (three old (unsigned_leb128 h.branch_func_offset) (unsigned_leb128 1) (byte ∷ []) one more new p q r)

hints_there : (f : FunctionHints) → f.function_index < 2 ^ 32 → IsCount (length f.hints) → AllByRecursion branch_hint.InRange f.hints → function_hints.InRange f
unfolding function_hints
hints_there f small few fit = ((small, (few, fit)), refl)

pub hints_written : (index : ℕ) (hints : List BranchHint) → IsMinimal EncodesU32 unsigned_leb128 index → IsCount (length hints) → All (IsMinimal branch_hint.Encodes branch_hint.bytes) hints → IsMinimal function_hints.Encodes function_hints.bytes (hints_of (index, hints))
hints_written index hints i few all = written hints_are_lawful.minimal (hints_of (index, hints)) (hints_there (hints_of (index, hints)) (in_range_of u32 Lawful-u32 index i) few (by_recursion branch_hint.InRange hints (all_in_range branch_hint hint_is_lawful hints all)))

pub adds_hints : (was old new : EncodedItems) (index : ℕ) (hints : List BranchHint) (r : Result (Unit {0}) EncodeError) → was ≡ old → OnOk r (new.count ≡ was.count + 1) → OnOk r (new.bytes ≡ was.bytes ++ function_hints.bytes (hints_of (index, hints)))
    → OnOk r (IsMinimal function_hints.Encodes function_hints.bytes (hints_of (index, hints))) → OnErr r (new ≡ was) → IfErr r (IsRefused (IsCount (length hints)) was) → AddsNamed function_hints (length hints) old (hints_of (index, hints)) new r
adds_hints was old new index hints r same count bytes written unchanged refusal = adds_value hints_are_lawful was old new (hints_of (index, hints)) r same (which (counted_or (length hints))) count bytes written unchanged refusal

-- The laws of the stacks in core dumps, and what is written of them.
use Rattle.std.proofs.Common.{◌≡◌, ℕ, ◌+◌, ◌<◌, ◌≤◌, ◌^◌, ◌⊎◌, List, ◌∷◌, ◌++◌, length, length-append, Some, Result, OnOk, OnErr, IfErr, refl, sym, ap, ◌∙◌, lit≤, arith}
use Rattle.std.specs.List.{All}
use Rattle.wasm_codec.specs.declared.encode.EncodeError.{EncodeError}
use Rattle.wasm_codec.specs.declared.encode.EncodeError.TheVariants.{Memory, TooLong}
use Rattle.wasm_codec.specs.Encoding.{IsCount, IsMinimal}
use Rattle.wasm_codec.specs.Lawful.{IsLawful, IsLawfulBody}
use Rattle.wasm_codec.specs.Leb128.{unsigned_leb128}
use Rattle.wasm_codec.specs.formats.Combinators.{items, u32}
use Rattle.wasm_codec.specs.formats.Grammar.{TakesBytes}
use Rattle.wasm_codec.specs.formats.Numbers.{EncodesU32}
use Rattle.wasm_codec.proofs.BodyLaws.{Lawful-body}
use Rattle.wasm_codec.proofs.FormatLaws.{Lawful-after, Lawful-both, Lawful-items, Lawful-made, Lawful-u32, takes_bytes}
use Rattle.wasm_codec.proofs.NumberLaws.{written}
use Rattle.wasm_externals.specs.formats.Names.{name}
use Rattle.wasm_externals.proofs.NameLaws.{name_is_lawful, in_name}
use Rattle.wasm_lists.specs.EncodedLists.{EncodedItems, IsFull, IsMemoryOrTooLong, IsUncounted, body_bytes}
use Rattle.wasm_lists.proofs.EncodedListLaws.{all_in_range, both_or, counted_or, which}
use Rattle.wasm_lists.proofs.WrittenLists.{in_range_of}
use Rattle.wasm_sections.specs.ListSections.{Adds, GainsItem}
use Rattle.wasm_custom_sections.specs.CoreDumpSections.{BuiltStack, HoldsStack, stack_bytes}
use Rattle.wasm_custom_sections.specs.NamedSections.{CountedNamed}
use Rattle.wasm_custom_sections.specs.declared.core_stacks.CoreDumpStackFrame.{CoreDumpStackFrame}
use Rattle.wasm_custom_sections.specs.declared.core_values.CoreDumpValue.{CoreDumpValue}
use Rattle.wasm_custom_sections.specs.formats.CoreStacks.{StackParts, core_frame, core_stack, core_value, frame_of, stack_of}
use Rattle.wasm_custom_sections.proofs.CoreValueLaws.{value_is_lawful}
use Rattle.wasm_custom_sections.proofs.GainingLaws.{IsRefused, adds_value, by_recursion, inner_in_range, inner_is}
use Rattle.wasm_custom_sections.proofs.WholeValueLaws.{named_refused, part_counted}

-- ---- frames

pub frame_is_lawful : IsLawful core_frame
unfolding core_frame
frame_is_lawful =
    Lawful-made frame_of (λ f. Some (f.instance_index, (f.function_index, (f.code_offset, (f.locals, f.stack))))) (λ p. refl)
    (Lawful-after 0x00 (lit≤ tt) (Lawful-both Lawful-u32 (Lawful-both Lawful-u32 (Lawful-both Lawful-u32 (Lawful-both (Lawful-items value_is_lawful) (Lawful-items value_is_lawful))))))

pub frame_takes : TakesBytes core_frame.Encodes
unfolding core_frame
frame_takes = takes_bytes frame_is_lawful refl

in_u32 : (n : ℕ) → IsMinimal EncodesU32 unsigned_leb128 n → n < 2 ^ 32
in_u32 n h = in_range_of u32 Lawful-u32 n h

-- the values of a list are in range
values_fit : (values : List CoreDumpValue) → IsCount (length values) → All (IsMinimal core_value.Encodes core_value.bytes) values → (items core_value).InRange values
values_fit values few all = (few, by_recursion core_value.InRange values (all_in_range core_value value_is_lawful values all))

module _ (f : CoreDumpStackFrame) where
  frame_there : f.instance_index < 2 ^ 32 → f.function_index < 2 ^ 32 → f.code_offset < 2 ^ 32 → (items core_value).InRange f.locals → (items core_value).InRange f.stack → core_frame.InRange f
  unfolding core_frame
  frame_there instance function offset locals stack = ((instance, (function, (offset, (locals, stack)))), refl)

  pub frame_written : IsMinimal EncodesU32 unsigned_leb128 f.instance_index → IsMinimal EncodesU32 unsigned_leb128 f.function_index → IsMinimal EncodesU32 unsigned_leb128 f.code_offset
      → IsCount (length f.locals) → All (IsMinimal core_value.Encodes core_value.bytes) f.locals → IsCount (length f.stack) → All (IsMinimal core_value.Encodes core_value.bytes) f.stack → IsMinimal core_frame.Encodes core_frame.bytes f
  frame_written instance function offset few locals count stack =
      written frame_is_lawful.minimal f (frame_there (in_u32 f.instance_index instance) (in_u32 f.function_index function) (in_u32 f.code_offset offset) (values_fit f.locals few locals) (values_fit f.stack count stack))

  pub adds_frame : (was old new : EncodedItems) (r : Result (Unit {0}) EncodeError) → was ≡ old → OnOk r (new.count ≡ was.count + 1) → OnOk r (new.bytes ≡ was.bytes ++ core_frame.bytes f)
      → OnOk r (IsMinimal core_frame.Encodes core_frame.bytes f) → OnErr r (new ≡ was) → IfErr r (IsRefused (IsCount (length f.locals) × IsCount (length f.stack)) was)
      → Adds (GainsItem core_frame) old f new (IsMemoryOrTooLong (IsFull old ⊎ (IsUncounted (length f.locals) ⊎ IsUncounted (length f.stack)))) r
  adds_frame was old new r same count bytes written unchanged refusal =
      adds_value frame_is_lawful was old new f r same (which (both_or (counted_or (length f.locals)) (counted_or (length f.stack)))) count bytes written unchanged refusal

-- ---- stacks

pub stack_is_lawful : IsLawful core_stack
unfolding core_stack
stack_is_lawful = Lawful-made stack_of (λ s. Some (s.name, s.frames)) (λ p. refl) (Lawful-after 0x00 (lit≤ tt) (Lawful-both name_is_lawful (Lawful-items frame_is_lawful)))

pub stack_takes : TakesBytes core_stack.Encodes
unfolding core_stack
stack_takes = takes_bytes stack_is_lawful refl

pub stack_body_is_lawful : IsLawfulBody core_stack
stack_body_is_lawful = Lawful-body stack_is_lawful

stack_there : (s : StackParts) → name.InRange s.name → (items core_frame).InRange s.frames → core_stack.InRange s
unfolding core_stack
stack_there s text frames = ((text, frames), refl)

stack_bytes_are : (s : StackParts) → core_stack.bytes s ≡ 0x00 ∷ (name.bytes s.name ++ (items core_frame).bytes s.frames)
unfolding core_stack
stack_bytes_are s = refl

pub stack_holds : (built : BuiltStack) → IsMinimal name.Encodes name.bytes built.name → IsCount built.frames.count → HoldsStack built
stack_holds built text few frames stands =
    let s = stack_of (built.name, frames) in
    let is : stack_bytes built ≡ core_stack.bytes s = ap (λ (t : List ℕ). 0x00 ∷ (name.bytes built.name ++ t)) (inner_is core_frame built.frames frames stands) ∙ sym (stack_bytes_are s) in
    let fits = stack_there s (in_name built.name text) (inner_in_range core_frame built.frames frames few stands) in
    (rw is (stack_is_lawful.minimal.encodes s fits), is)

module _ (built : BuiltStack) where
  name_within : length built.name ≤ length (stack_bytes built)
  unfolding name
  name_within = omega (arith, length-append (unsigned_leb128 (length built.name)) built.name, length-append (name.bytes built.name) (body_bytes built.frames))

  pub stack_refused : {X : Type 0} (r : Result X EncodeError) (title text : List ℕ) (frames : EncodedItems) → text ≡ built.name → frames ≡ built.frames
      → IfErr r (λ e. ((e ≡ Memory) ⊎ ((IsCount (length text) → ⊥) × (e ≡ TooLong))) ⊎ ((CountedNamed title (stack_bytes (record { name = text; frames = frames })) → ⊥) × (e ≡ TooLong)))
      → IfErr r (λ e. (e ≡ Memory) ⊎ ((CountedNamed title (stack_bytes built) → ⊥) × (e ≡ TooLong)))
  stack_refused r title text frames named framed why =
      named_refused r (IsCount (length built.name)) (CountedNamed title (stack_bytes built)) (part_counted title (stack_bytes built) (length built.name) name_within) (rw (← named, ← framed) why)

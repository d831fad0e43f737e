-- The laws of core dump sections, but for stacks, and what is written of them.
use Rattle.std.proofs.Common.{◌≡◌, ℕ, ◌+◌, ◌<◌, ◌≤◌, ◌^◌, ◌⊎◌, List, ◌++◌, length, length-append, Some, Result, OnOk, OnErr, IfErr, refl, lit≤, arith}
use Rattle.std.specs.List.{All}
use Rattle.wasm_codec.specs.declared.encode.EncodeError.{EncodeError}
use Rattle.wasm_codec.specs.declared.encode.EncodeError.TheVariants.{Memory, TooLong}
use Rattle.wasm_codec.specs.Encoding.{IsCount, IsMinimal}
use Rattle.wasm_codec.specs.Lawful.{IsLawful, IsLawfulBody}
use Rattle.wasm_codec.specs.Leb128.{unsigned_leb128}
use Rattle.wasm_codec.specs.formats.Combinators.{items, u32}
use Rattle.wasm_codec.specs.formats.Grammar.{TakesBytes}
use Rattle.wasm_codec.specs.formats.Numbers.{EncodesU32}
use Rattle.wasm_codec.proofs.BodyLaws.{Lawful-body}
use Rattle.wasm_codec.proofs.FormatLaws.{Lawful-after, Lawful-both, Lawful-items, Lawful-made, Lawful-u32, takes_bytes}
use Rattle.wasm_codec.proofs.NumberLaws.{written}
use Rattle.wasm_externals.specs.formats.Names.{name}
use Rattle.wasm_externals.proofs.NameLaws.{name_is_lawful, in_name}
use Rattle.wasm_lists.specs.EncodedLists.{EncodedItems, IsFull, IsMemoryOrTooLong, IsUncounted}
use Rattle.wasm_lists.proofs.EncodedListLaws.{all_in_range, both_or, counted_or, which}
use Rattle.wasm_lists.proofs.WrittenLists.{in_range_of}
use Rattle.wasm_sections.specs.ListSections.{Adds, GainsItem}
use Rattle.wasm_custom_sections.specs.CoreDumpSections.{HoldsProcess}
use Rattle.wasm_custom_sections.specs.Gaining.{AddsNamed}
use Rattle.wasm_custom_sections.specs.NamedSections.{CountedNamed}
use Rattle.wasm_custom_sections.specs.declared.core_dumps.CoreDumpInstance.{CoreDumpInstance}
use Rattle.wasm_custom_sections.specs.formats.CoreDumps.{core_instance, core_name, instance_of}
use Rattle.wasm_custom_sections.proofs.GainingLaws.{IsRefused, adds_named, adds_value, by_recursion}
use Rattle.wasm_custom_sections.proofs.WholeValueLaws.{named_refused, part_counted}

-- ---- names

pub core_name_is_lawful : IsLawful core_name
unfolding core_name
core_name_is_lawful = Lawful-after 0x00 (lit≤ tt) name_is_lawful

pub core_name_takes : TakesBytes core_name.Encodes
unfolding core_name
core_name_takes = takes_bytes core_name_is_lawful refl

pub core_name_body_is_lawful : IsLawfulBody core_name
core_name_body_is_lawful = Lawful-body core_name_is_lawful

core_name_there : (text : List ℕ) → name.InRange text → core_name.InRange text
unfolding core_name
core_name_there text fits = fits

pub core_name_written : (text : List ℕ) → IsMinimal name.Encodes name.bytes text → IsMinimal core_name.Encodes core_name.bytes text
core_name_written text h = written core_name_is_lawful.minimal text (core_name_there text (in_name text h))

pub adds_module : (was old new : EncodedItems) (text : List ℕ) (r : Result (Unit {0}) EncodeError) → was ≡ old → OnOk r (new.count ≡ was.count + 1) → OnOk r (new.bytes ≡ was.bytes ++ core_name.bytes text)
    → OnOk r (IsMinimal core_name.Encodes core_name.bytes text) → OnErr r (new ≡ was) → IfErr r (IsRefused (IsCount (length text)) was) → AddsNamed core_name (length text) old text new r
adds_module was old new text r same count bytes written unchanged refusal = adds_named core_name_is_lawful was old new text r same text count bytes written unchanged refusal

-- ---- instances

pub instance_is_lawful : IsLawful core_instance
unfolding core_instance
instance_is_lawful = Lawful-made instance_of (λ i. Some (i.module_index, (i.memories, i.globals))) (λ p. refl) (Lawful-after 0x00 (lit≤ tt) (Lawful-both Lawful-u32 (Lawful-both (Lawful-items Lawful-u32) (Lawful-items Lawful-u32))))

pub instance_takes : TakesBytes core_instance.Encodes
unfolding core_instance
instance_takes = takes_bytes instance_is_lawful refl

instance_there : (i : CoreDumpInstance) → i.module_index < 2 ^ 32 → (items u32).InRange i.memories → (items u32).InRange i.globals → core_instance.InRange i
unfolding core_instance
instance_there i index memories globals = ((index, (memories, globals)), refl)

-- the indices of a list are in range
indices_fit : (indices : List ℕ) → IsCount (length indices) → All (IsMinimal EncodesU32 unsigned_leb128) indices → (items u32).InRange indices
indices_fit indices few all = (few, by_recursion u32.InRange indices (all_in_range u32 Lawful-u32 indices all))

pub instance_written : (i : CoreDumpInstance) → IsMinimal EncodesU32 unsigned_leb128 i.module_index → IsCount (length i.memories) → All (IsMinimal EncodesU32 unsigned_leb128) i.memories → IsCount (length i.globals) → All (IsMinimal EncodesU32 unsigned_leb128) i.globals
    → IsMinimal core_instance.Encodes core_instance.bytes i
instance_written i index few memories count globals = written instance_is_lawful.minimal i (instance_there i (in_range_of u32 Lawful-u32 i.module_index index) (indices_fit i.memories few memories) (indices_fit i.globals count globals))

pub adds_instance : (was old new : EncodedItems) (i : CoreDumpInstance) (r : Result (Unit {0}) EncodeError) → was ≡ old → OnOk r (new.count ≡ was.count + 1) → OnOk r (new.bytes ≡ was.bytes ++ core_instance.bytes i)
    → OnOk r (IsMinimal core_instance.Encodes core_instance.bytes i) → OnErr r (new ≡ was) → IfErr r (IsRefused (IsCount (length i.memories) × IsCount (length i.globals)) was)
    → Adds (GainsItem core_instance) old i new (IsMemoryOrTooLong (IsFull old ⊎ (IsUncounted (length i.memories) ⊎ IsUncounted (length i.globals)))) r
adds_instance was old new i r same count bytes written unchanged refusal =
    adds_value instance_is_lawful was old new i r same (which (both_or (counted_or (length i.memories)) (counted_or (length i.globals)))) count bytes written unchanged refusal

-- ---- processes

pub process_held : (text : List ℕ) → IsMinimal core_name.Encodes core_name.bytes text → HoldsProcess text
process_held text h = (h.encodes, refl)

name_within : (text : List ℕ) → length text ≤ length (core_name.bytes text)
unfolding core_name name
name_within text = omega (arith, length-append (unsigned_leb128 (length text)) text)

pub process_refused : {X : Type 0} (r : Result X EncodeError) (title text : List ℕ) → IfErr r (λ e. ((e ≡ Memory) ⊎ ((IsCount (length text) → ⊥) × (e ≡ TooLong))) ⊎ ((CountedNamed title (core_name.bytes text) → ⊥) × (e ≡ TooLong)))
    → IfErr r (λ e. (e ≡ Memory) ⊎ ((CountedNamed title (core_name.bytes text) → ⊥) × (e ≡ TooLong)))
process_refused r title text why = named_refused r (IsCount (length text)) (CountedNamed title (core_name.bytes text)) (part_counted title (core_name.bytes text) (length text) (name_within text)) why

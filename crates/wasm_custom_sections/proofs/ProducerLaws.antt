-- The laws of the fields of a producers section, and what is written of them.
use Rattle.std.proofs.Common.{◌≡◌, ℕ, ◌+◌, ◌⊎◌, List, ◌++◌, length, Some, Result, OnOk, OnErr, IfErr, refl, sym, ap, ◌∙◌}
use Rattle.wasm_codec.specs.declared.encode.EncodeError.{EncodeError}
use Rattle.wasm_codec.specs.Encoding.{IsCount, IsMinimal}
use Rattle.wasm_codec.specs.Lawful.{IsLawful}
use Rattle.wasm_codec.specs.formats.Grammar.{TakesBytes}
use Rattle.wasm_codec.specs.formats.Combinators.{items}
use Rattle.wasm_codec.proofs.FormatLaws.{Lawful-both, Lawful-items, Lawful-made, takes_bytes}
use Rattle.wasm_codec.proofs.NumberLaws.{written}
use Rattle.wasm_externals.specs.formats.Names.{name}
use Rattle.wasm_externals.proofs.NameLaws.{name_is_lawful, in_name}
use Rattle.wasm_lists.specs.EncodedLists.{EncodedItems, IsFull, IsMemoryOrTooLong, IsUncounted, body_bytes}
use Rattle.wasm_lists.proofs.EncodedListLaws.{both_or, counted_or, which}
use Rattle.wasm_sections.specs.ListSections.{Adds, GainsItem}
use Rattle.wasm_custom_sections.specs.Gaining.{GainsWith}
use Rattle.wasm_custom_sections.specs.formats.ProducerParts.{FieldParts, ProducerParts}
use Rattle.wasm_custom_sections.specs.formats.Producers.{field_of, producer, producer_of, producers_field}
use Rattle.wasm_custom_sections.proofs.GainingLaws.{IsRefused, adds_value, adds_with, inner_in_range, inner_is, refused}

pub producer_is_lawful : IsLawful producer
unfolding producer
producer_is_lawful = Lawful-made producer_of (λ p. Some (p.name, p.version)) (λ p. refl) (Lawful-both name_is_lawful name_is_lawful)

pub producer_takes : TakesBytes producer.Encodes
unfolding producer name
producer_takes = takes_bytes producer_is_lawful refl

pub field_is_lawful : IsLawful producers_field
unfolding producers_field
field_is_lawful = Lawful-made field_of (λ f. Some (f.field, f.values)) (λ p. refl) (Lawful-both name_is_lawful (Lawful-items producer_is_lawful))

pub field_takes : TakesBytes producers_field.Encodes
unfolding producers_field name
field_takes = takes_bytes field_is_lawful refl

-- ---- writing

producer_there : (p : ProducerParts) → name.InRange p.name → name.InRange p.version → producer.InRange p
unfolding producer
producer_there p first second = ((first, second), refl)

pub producer_written : (p : ProducerParts) → IsMinimal name.Encodes name.bytes p.name → IsMinimal name.Encodes name.bytes p.version → IsMinimal producer.Encodes producer.bytes p
producer_written p first second = written producer_is_lawful.minimal p (producer_there p (in_name p.name first) (in_name p.version second))

field_there : (f : FieldParts) → name.InRange f.field → (items producer).InRange f.values → producers_field.InRange f
unfolding producers_field
field_there f first fits = ((first, fits), refl)

field_bytes : (f : FieldParts) → producers_field.bytes f ≡ name.bytes f.field ++ (items producer).bytes f.values
unfolding producers_field
field_bytes f = refl

-- ---- methods that add

pub adds_producer : (was old new : EncodedItems) (first second : List ℕ) (r : Result (Unit {0}) EncodeError) → was ≡ old → OnOk r (new.count ≡ was.count + 1) → OnOk r (new.bytes ≡ was.bytes ++ producer.bytes (producer_of (first, second)))
    → OnOk r (IsMinimal producer.Encodes producer.bytes (producer_of (first, second))) → OnErr r (new ≡ was) → IfErr r (IsRefused (IsCount (length first) × IsCount (length second)) was)
    → Adds (GainsItem producer) old (producer_of (first, second)) new (IsMemoryOrTooLong (IsFull old ⊎ (IsUncounted (length first) ⊎ IsUncounted (length second)))) r
adds_producer was old new first second r same count bytes written unchanged refusal =
    adds_value producer_is_lawful was old new (producer_of (first, second)) r same (which (both_or (counted_or (length first)) (counted_or (length second)))) count bytes written unchanged refusal

pub adds_field : (was old inner new : EncodedItems) (text : List ℕ) (r : Result (Unit {0}) EncodeError) → was ≡ old → OnOk r (new.count ≡ was.count + 1) → OnOk r (new.bytes ≡ was.bytes ++ (name.bytes text ++ body_bytes inner))
    → OnOk r (IsMinimal name.Encodes name.bytes text × IsCount inner.count) → OnErr r (new ≡ was) → IfErr r (IsRefused (IsCount (length text)) was)
    → Adds (GainsWith producer producers_field (λ values. field_of (text, values))) old inner new (IsMemoryOrTooLong (IsFull old ⊎ IsUncounted (length text))) r
adds_field was old inner new text r same count bytes written unchanged refusal =
    adds_with producer producers_field (λ values. field_of (text, values)) was old inner new (name.bytes text ++ body_bytes inner) r same (λ list. IsMemoryOrTooLong (IsFull list ⊎ IsUncounted (length text)))
    (λ h values stands. (ap (λ (t : List ℕ). name.bytes text ++ t) (inner_is producer inner values stands) ∙ sym (field_bytes (field_of (text, values))), field_there (field_of (text, values)) (in_name text h.0) (inner_in_range producer inner values h.1 stands)))
    count bytes written unchanged (refused r was (which (counted_or (length text))) refusal)

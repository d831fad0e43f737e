-- The laws of sections whose contents are one value, and what is read and written of them.
use Rattle.std.proofs.Common.{◌≡◌, ℕ, ◌-◌, ◌<◌, ◌≤◌, ◌⊎◌, inl, inr, true, List, ◌++◌, ◌+◌, length, length-append, take, drop, Some, Result, Ok, Err, IfErr, sym, ap, subst, ◌∙◌, arith}
use Rattle.std.proofs.Math.Seq.{take-length}
use Rattle.std.proofs.lemmas.List.{drop_at}
use Rattle.wasm_codec.specs.Decoding.{ReadsAll}
use Rattle.wasm_codec.specs.Encoding.{IsCount, IsMinimal}
use Rattle.wasm_codec.specs.Lawful.{IsLawful, IsLawfulBody}
use Rattle.wasm_codec.specs.Outcomes.{error_of}
use Rattle.wasm_codec.specs.Places.{Place, place, Reads}
use Rattle.wasm_codec.specs.declared.encode.EncodeError.{EncodeError}
use Rattle.wasm_codec.specs.declared.encode.EncodeError.TheVariants.{Memory, TooLong}
use Rattle.wasm_codec.specs.declared.reader.ReadError.TheVariants as errors
use Rattle.wasm_codec.specs.declared.reader.cursor.Fault.{Fault}
use Rattle.wasm_codec.specs.declared.reader.cursor.Fault.TheVariants as faults
use Rattle.wasm_codec.specs.formats.Combinators.{Format}
use Rattle.wasm_codec.specs.formats.Grammar.{IsBytes}
use Rattle.wasm_codec.proofs.BodyLaws.{Lawful-body}
use Rattle.wasm_codec.proofs.AppendLaws.{two}
use Rattle.wasm_externals.specs.formats.Names.{name}
use Rattle.wasm_code.specs.DecodedPrefixes.{IsNothingOr}
use Rattle.wasm_sections.specs.formats.Sections.{custom_body}
use Rattle.wasm_sections.proofs.CustomLaws.{body_counted, custom_written}
use Rattle.wasm_sections.proofs.ModuleSectionLaws.{custom_section_written}
use Rattle.wasm_sections.proofs.ValueReading.{all_there, left_over, nothing_there, prefixes_lawful, refuses, returns_it}
use Rattle.wasm_custom_sections.specs.NamedSections.{CountedNamed, IsNamedSection, named}

pub value_is_lawful_body : {V : Type 0} {F : Format V} → IsLawful F → IsLawfulBody F
value_is_lawful_body r = Lawful-body r

-- ---- reading, as the code has it

module _ {X V : Type 0} (view : X → V) {F : Format V} (r : IsLawful F) (bytes : List ℕ) (p : Place) (start : p ≡ place true bytes) where
  pub value_wanting : (new : Place) (fault : Fault) → Reads F.at p new (Err fault) → ReadsAll view F.Encodes (IsNothingOr F) bytes (Err (error_of fault 0))
  value_wanting new (faults.Malformed m) none = refuses view F bytes 0 (nothing_there r bytes (ap F.at (sym start) ∙ none))
  value_wanting new faults.Memory none = record { given = tt; prefix = tt; unencoded = tt }

  module _ (x : X) (q : Place) (fits : IsBytes p.left) (read : F.at p ≡ Some (view x, q)) where
    at_start : F.at (place true bytes) ≡ Some (view x, q)
    at_start = ap F.at (sym start) ∙ read

    are_bytes : IsBytes bytes
    are_bytes = subst (λ (t : Place). IsBytes t.left) start fits

    pub value_fewer : length q.left ≤ length bytes
    value_fewer = (prefixes_lawful r).within bytes (view x) q are_bytes at_start

    pub value_left_over : 0 < length q.left → ReadsAll view F.Encodes (IsNothingOr F) bytes (Err (errors.Refused (length bytes - length q.left)))
    value_left_over some = refuses view F bytes (length bytes - length q.left) (left_over r bytes (view x) q are_bytes at_start some)

    pub value_there : length q.left ≤ 0 → ReadsAll view F.Encodes (IsNothingOr F) bytes (Ok x)
    value_there none = returns_it view F bytes x (all_there r bytes (view x) q are_bytes at_start none)

-- ---- writing

-- a name and contents were appended, which are bytes: with the size in front they are a section, minimally encoded
pub named_written : (title contents old one new : List ℕ) (len start begin : ℕ) → one ≡ old ++ name.bytes title → new ≡ one ++ contents → len ≡ length new → start ≡ length old → begin ≡ length one → IsBytes (take (length new - begin) (drop begin new)) → IsCount (len - start)
    → IsMinimal name.Encodes name.bytes title → IsNamedSection title contents
unfolding custom_body
named_written title contents old one new len start begin first second ends starts begins are few title_written =
    let left : drop begin new ≡ contents = rw second (drop_at one contents begin (sym begins)) in
    let size : length new - begin ≡ length contents = omega (arith, begins, ap (length {A = ℕ}) second, length-append one contents) in
    let last : take (length new - begin) (drop begin new) ≡ contents = ap (take (length new - begin)) left ∙ ap (λ (count : ℕ). take count contents) size ∙ take-length contents in
    let body : length new ≡ length old + length (custom_body.bytes (named title contents)) = ap (length {A = ℕ}) (two old (name.bytes title) contents one new first second) ∙ length-append old (custom_body.bytes (named title contents)) in
    let counted : IsCount (length (custom_body.bytes (named title contents))) = omega (arith, few, ends, starts, body) in
    let done : Result (Unit {0}) EncodeError = Ok tt in
    custom_section_written done (named title contents) counted (custom_written (named title contents) title_written (subst IsBytes last are))

-- a u32 counts the bytes of a part of the contents
pub part_counted : (title contents : List ℕ) (len : ℕ) → len ≤ length contents → CountedNamed title contents → IsCount len
part_counted title contents len within counted = omega (arith, within, counted.1, body_counted (named title contents))

-- why a section isn't written: memory ran out, or a u32 doesn't count its body
pub named_refused : {X : Type 0} (r : Result X EncodeError) (Can Section : Type 0) → (Section → Can) → IfErr r (λ e. ((e ≡ Memory) ⊎ ((Can → ⊥) × (e ≡ TooLong))) ⊎ ((Section → ⊥) × (e ≡ TooLong))) → IfErr r (λ e. (e ≡ Memory) ⊎ ((Section → ⊥) × (e ≡ TooLong)))
named_refused (Ok x) Can Section part why = tt
named_refused (Err e) Can Section part (inl (inl memory)) = inl memory
named_refused (Err e) Can Section part (inl (inr (cannot, is))) = inr (λ s. cannot (part s), is)
named_refused (Err e) Can Section part (inr why) = inr why

-- The laws of the subsections of a name section, and what is read and rewritten of them.
use Rattle.std.proofs.Common.{◌≡◌, ℕ, ◌<◌, ◌^◌, ◌==◌, false, List, [], ◌∷◌, ◌++◌, length, Option, Some, None, Result, Ok, Err, IsOkAnd, MatchResult, refl, sym, ap, subst, ◌∙◌, append_assoc, lit≤, arith}
use Rattle.std.proofs.lemmas.Bool.{lt-ltb, ne_eqb}
use Rattle.wasm_codec.specs.Decoding.{TakesMinimal}
use Rattle.wasm_codec.specs.Lawful.{IsLawful, IsLawfulBody}
use Rattle.wasm_codec.specs.Places.{Place, byte_at, map_at, Reads}
use Rattle.wasm_codec.specs.Reading.{◌>>=◌, map_ok}
use Rattle.wasm_codec.specs.Rewriter.{Gives, Rewriting, rewritten_at, Rewrites}
use Rattle.wasm_codec.specs.declared.reader.cursor.Fault.{Fault}
use Rattle.wasm_codec.specs.declared.reader.cursor.Fault.TheVariants as faults
use Rattle.wasm_codec.specs.formats.Bodies.{byte_list, bytes_to_end, sized}
use Rattle.wasm_codec.specs.formats.Combinators.{Format, ◌⊗◌, a_byte, byte_where, items, made, minimal_only, or_else}
use Rattle.wasm_codec.specs.formats.Grammar.{IsBytes, Joined, TakesBytes}
use Rattle.wasm_codec.proofs.BodyLaws.{Lawful-body, Lawful-byte-list, Lawful-sized, Lawful-to-end}
use Rattle.wasm_codec.proofs.FormatLaws.{Every-made, IsTagged, Lawful-both, Lawful-items, Lawful-made, Lawful-or-else, Tagged-or, takes_bytes}
use Rattle.wasm_codec.proofs.MinimalIfLaws.{joined_minimal_only}
use Rattle.wasm_codec.proofs.RawFormatLaws.{Lawful-byte-where}
use Rattle.wasm_codec.proofs.RewriterLaws.{after_is, is_after, is_given}
use Rattle.wasm_externals.specs.formats.Names.{name}
use Rattle.wasm_externals.proofs.NameLaws.{name_is_lawful}
use Rattle.wasm_custom_sections.specs.formats.NameParts.{SubsectionParts, subsection_id, module_name, functions, locals, labels, types, tables, memories, globals, elements, data_segments, fields, tags, unknown, module_part, functions_part, locals_part, labels_part, types_part, tables_part, memories_part, globals_part, elements_part, data_segments_part, fields_part, tags_part, unknown_of, unknown_part}
use Rattle.wasm_custom_sections.specs.formats.Names.{naming, indirect_naming, is_unknown, name_data, name_subsection, part_of}
use Rattle.wasm_custom_sections.proofs.NamingLaws.{naming_is_lawful, indirect_is_lawful}

part : {V : Type 0} {F : Format V} (make : V → SubsectionParts) (parts : SubsectionParts → Option V) → ((v : V) → parts (make v) ≡ Some v) → IsLawful F → IsLawful (part_of make parts F)
part make parts inverse law = Lawful-made make parts inverse (Lawful-sized (Lawful-body law))

names_lawful : IsLawful (items naming)
names_lawful = Lawful-items naming_is_lawful

indirect_lawful : IsLawful (items indirect_naming)
indirect_lawful = Lawful-items indirect_is_lawful

abbrev unknown_subsection : Format SubsectionParts
unknown_subsection = made unknown_of unknown_part (byte_where is_unknown ⊗ byte_list)

unknown_tagged : IsTagged subsection_id (or_else unknown_subsection)
unknown_tagged = record {
  choice = Lawful-or-else refl (Lawful-made unknown_of unknown_part (λ p. refl) (Lawful-both (Lawful-byte-where is_unknown) Lawful-byte-list));
  tagged = λ b bytes v g. heads (g.1.2 ∙ ap (λ (t : List ℕ). t ++ g.1.1) g.1.3.0) ∙ ap subsection_id g.2;
} where
  heads : {b n : ℕ} {s t : List ℕ} → b ∷ s ≡ n ∷ t → b ≡ n
  heads e = cc

pub subsection_is_lawful : IsLawful name_subsection
unfolding name_subsection
subsection_is_lawful =
    (Tagged-or subsection_id 0 refl (lit≤ tt) (Every-made (λ n. refl)) (part module_name module_part (λ n. refl) name_is_lawful)
    (Tagged-or subsection_id 1 refl (lit≤ tt) (Every-made (λ n. refl)) (part functions functions_part (λ n. refl) names_lawful)
    (Tagged-or subsection_id 2 refl (lit≤ tt) (Every-made (λ n. refl)) (part locals locals_part (λ n. refl) indirect_lawful)
    (Tagged-or subsection_id 3 refl (lit≤ tt) (Every-made (λ n. refl)) (part labels labels_part (λ n. refl) indirect_lawful)
    (Tagged-or subsection_id 4 refl (lit≤ tt) (Every-made (λ n. refl)) (part types types_part (λ n. refl) names_lawful)
    (Tagged-or subsection_id 5 refl (lit≤ tt) (Every-made (λ n. refl)) (part tables tables_part (λ n. refl) names_lawful)
    (Tagged-or subsection_id 6 refl (lit≤ tt) (Every-made (λ n. refl)) (part memories memories_part (λ n. refl) names_lawful)
    (Tagged-or subsection_id 7 refl (lit≤ tt) (Every-made (λ n. refl)) (part globals globals_part (λ n. refl) names_lawful)
    (Tagged-or subsection_id 8 refl (lit≤ tt) (Every-made (λ n. refl)) (part elements elements_part (λ n. refl) names_lawful)
    (Tagged-or subsection_id 9 refl (lit≤ tt) (Every-made (λ n. refl)) (part data_segments data_segments_part (λ n. refl) names_lawful)
    (Tagged-or subsection_id 10 refl (lit≤ tt) (Every-made (λ n. refl)) (part fields fields_part (λ n. refl) indirect_lawful)
    (Tagged-or subsection_id 11 refl (lit≤ tt) (Every-made (λ n. refl)) (part tags tags_part (λ n. refl) names_lawful)
    unknown_tagged)))))))))))).choice.lawful

pub subsection_takes : TakesBytes name_subsection.Encodes
unfolding name_subsection
subsection_takes = takes_bytes subsection_is_lawful refl

pub name_data_is_lawful : IsLawfulBody name_data
name_data_is_lawful = Lawful-to-end subsection_is_lawful subsection_takes

pub name_data_is_minimal : TakesMinimal name_data (Joined (minimal_only name_subsection).Encodes)
name_data_is_minimal = joined_minimal_only subsection_is_lawful

-- ---- the kinds

-- this id precedes the size and a content of this format
pub record IsKind {V : Type 0} (id : ℕ) (make : V → SubsectionParts) (F : Format V) : Type 0 where
  pub at_is : (p after : Place) → byte_at p ≡ Some (id, after) → name_subsection.at p ≡ map_at make (sized F).at after
  pub bytes_are : (v : V) → name_subsection.bytes (make v) ≡ id ∷ (sized F).bytes v
  pub in_range : (v : V) → (sized F).InRange v → name_subsection.InRange (make v)
  pub id_is : (v : V) → subsection_id (make v) ≡ id

pub module_name_kind : IsKind 0 module_name name
unfolding name_subsection
module_name_kind = record { at_is = λ p after e. rw e refl; bytes_are = λ v. refl; in_range = λ v fits. (fits, refl); id_is = λ v. refl }

pub functions_kind : IsKind 1 functions (items naming)
unfolding name_subsection
functions_kind = record { at_is = λ p after e. rw e refl; bytes_are = λ v. refl; in_range = λ v fits. (fits, refl); id_is = λ v. refl }

pub locals_kind : IsKind 2 locals (items indirect_naming)
unfolding name_subsection
locals_kind = record { at_is = λ p after e. rw e refl; bytes_are = λ v. refl; in_range = λ v fits. (fits, refl); id_is = λ v. refl }

pub labels_kind : IsKind 3 labels (items indirect_naming)
unfolding name_subsection
labels_kind = record { at_is = λ p after e. rw e refl; bytes_are = λ v. refl; in_range = λ v fits. (fits, refl); id_is = λ v. refl }

pub types_kind : IsKind 4 types (items naming)
unfolding name_subsection
types_kind = record { at_is = λ p after e. rw e refl; bytes_are = λ v. refl; in_range = λ v fits. (fits, refl); id_is = λ v. refl }

pub tables_kind : IsKind 5 tables (items naming)
unfolding name_subsection
tables_kind = record { at_is = λ p after e. rw e refl; bytes_are = λ v. refl; in_range = λ v fits. (fits, refl); id_is = λ v. refl }

pub memories_kind : IsKind 6 memories (items naming)
unfolding name_subsection
memories_kind = record { at_is = λ p after e. rw e refl; bytes_are = λ v. refl; in_range = λ v fits. (fits, refl); id_is = λ v. refl }

pub globals_kind : IsKind 7 globals (items naming)
unfolding name_subsection
globals_kind = record { at_is = λ p after e. rw e refl; bytes_are = λ v. refl; in_range = λ v fits. (fits, refl); id_is = λ v. refl }

pub elements_kind : IsKind 8 elements (items naming)
unfolding name_subsection
elements_kind = record { at_is = λ p after e. rw e refl; bytes_are = λ v. refl; in_range = λ v fits. (fits, refl); id_is = λ v. refl }

pub data_segments_kind : IsKind 9 data_segments (items naming)
unfolding name_subsection
data_segments_kind = record { at_is = λ p after e. rw e refl; bytes_are = λ v. refl; in_range = λ v fits. (fits, refl); id_is = λ v. refl }

pub fields_kind : IsKind 10 fields (items indirect_naming)
unfolding name_subsection
fields_kind = record { at_is = λ p after e. rw e refl; bytes_are = λ v. refl; in_range = λ v fits. (fits, refl); id_is = λ v. refl }

pub tags_kind : IsKind 11 tags (items naming)
unfolding name_subsection
tags_kind = record { at_is = λ p after e. rw e refl; bytes_are = λ v. refl; in_range = λ v fits. (fits, refl); id_is = λ v. refl }

other : (id n : ℕ) → n < id → (id == n) ≡ false
other id n lt = ne_eqb id n (λ is. absurd (omega (arith, lt, is)))

unknown_made : (id : ℕ) (o : Option (List ℕ × Place)) →
    ◌>>=◌ {A = (ℕ × List ℕ) × Place} {B = SubsectionParts × Place} (◌>>=◌ {A = List ℕ × Place} {B = (ℕ × List ℕ) × Place} o (λ b. Some ((id, b.0), b.1))) (λ x. Some (unknown_of x.0, x.1)) ≡ ◌>>=◌ {A = List ℕ × Place} {B = SubsectionParts × Place} o (λ v. Some (unknown id v.0, v.1))
unknown_made id None = refl
unknown_made id (Some x) = refl

-- an unknown id precedes any bytes
pub unknown_at : (id : ℕ) → 11 < id → (p after : Place) → byte_at p ≡ Some (id, after) → name_subsection.at p ≡ map_at (unknown id) byte_list.at after
unfolding name_subsection
unknown_at id far p after e = rw (e, other id 0 (omega (arith, far)), other id 1 (omega (arith, far)), other id 2 (omega (arith, far)), other id 3 (omega (arith, far)), other id 4 (omega (arith, far)), other id 5 (omega (arith, far)), other id 6 (omega (arith, far)), other id 7 (omega (arith, far)), other id 8 (omega (arith, far)), other id 9 (omega (arith, far)), other id 10 (omega (arith, far)), other id 11 (omega (arith, far)), lt-ltb 11 id far) (unknown_made id (byte_list.at after))

-- ---- reading

pub no_id : (p new : Place) (fault : Fault) → Reads byte_at p new (Err fault) → Reads name_subsection.at p new (Err fault)
unfolding name_subsection
no_id p new (faults.Malformed m) none = rw none refl
no_id p new faults.Memory none = tt

module _ (n : ℕ) (old mid new : Place) (begun : byte_at old ≡ Some (n, mid)) where
  module _ {V : Type 0} {id : ℕ} {make : V → SubsectionParts} {F : Format V} (kind : IsKind id make F) (is : n ≡ id) where
    at_mid : name_subsection.at old ≡ map_at make (sized F).at mid
    at_mid = kind.at_is old mid (subst (λ (k : ℕ). byte_at old ≡ Some (k, mid)) is begun)

    pub kind_read : (v : V) → (sized F).at mid ≡ Some (v, new) → name_subsection.at old ≡ Some (make v, new)
    kind_read v e = at_mid ∙ rw e refl

    pub kind_fault : (fault : Fault) → Reads (sized F).at mid new (Err fault) → Reads name_subsection.at old new (Err fault)
    kind_fault (faults.Malformed m) none = at_mid ∙ rw none refl
    kind_fault faults.Memory none = tt

    -- a content that was read gets a wrapper that stands for the kind
    pub kind_mapped : {X Y : Type 0} (parts : X → V) (view : Y → SubsectionParts) (wrap : X → Y) → ((x : X) → view (wrap x) ≡ make (parts x)) → (r : Result X Fault) (s : Result Y Fault) → Reads (sized F).at mid new (map_ok parts r) → MatchResult r (λ x. IsOkAnd s (λ y. y ≡ wrap x)) (λ e. s ≡ Err e) → Reads name_subsection.at old new (map_ok view s)
    kind_mapped parts view wrap same (Ok x) (Ok y) reads is = kind_read (parts x) reads ∙ ap (λ v. Some (v, new)) (sym (ap view is ∙ same x))
    kind_mapped parts view wrap same (Ok x) (Err e) reads is = absurd is
    kind_mapped parts view wrap same (Err e) s reads is = rw is (kind_fault e reads)

  pub unknown_read : 11 < n → (bytes : List ℕ) → byte_list.at mid ≡ Some (bytes, new) → name_subsection.at old ≡ Some (unknown n bytes, new)
  unknown_read far bytes e = unknown_at n far old mid begun ∙ rw e refl

  pub unknown_fault : 11 < n → (fault : Fault) → Reads byte_list.at mid new (Err fault) → Reads name_subsection.at old new (Err fault)
  unknown_fault far (faults.Malformed m) none = unknown_at n far old mid begun ∙ rw none refl
  unknown_fault far faults.Memory none = tt

-- ---- rewriting

module _ {V : Type 0} (id : ℕ) (make : V → SubsectionParts) (F : Format V) (at_is : (p after : Place) → byte_at p ≡ Some (id, after) → name_subsection.at p ≡ map_at make (sized F).at after) (bytes_are : (v : V) → name_subsection.bytes (make v) ≡ id ∷ (sized F).bytes v) where
  rewritten : (old mid new : Rewriting) (result : Result (Unit {0}) Fault) → rewritten_at a_byte old ≡ Some (id, mid) → Rewrites (sized F) mid new result → Rewrites name_subsection old new result
  rewritten old mid new (Ok done) begun e =
      let first = is_given a_byte old id mid begun in
      let one = is_after (sized F) mid new e in
      let bytes : new.done ≡ old.done ++ name_subsection.bytes (make one.value) =
      one.given.written ∙ ap (λ (d : List ℕ). d ++ (sized F).bytes one.value) first.written ∙ append_assoc old.done (id ∷ []) ((sized F).bytes one.value) ∙ ap (λ (t : List ℕ). old.done ++ t) (sym (bytes_are one.value)) in
      after_is name_subsection old new (make one.value) (at_is old.place mid.place first.is_read ∙ rw one.given.is_read refl) bytes (one.given.rest ∙ first.rest)
  rewritten old mid new (Err (faults.Malformed m)) begun none = at_is old.place mid.place (is_given a_byte old id mid begun).is_read ∙ rw none refl
  rewritten old mid new (Err faults.Memory) begun none = none

pub kind_rewritten : {V : Type 0} {id : ℕ} {make : V → SubsectionParts} {F : Format V} → IsKind id make F → (n : ℕ) → n ≡ id → (old mid new : Rewriting) (result : Result (Unit {0}) Fault) → rewritten_at a_byte old ≡ Some (n, mid) → Rewrites (sized F) mid new result → Rewrites name_subsection old new result
kind_rewritten {id = id} {make} {F} kind n is old mid new result begun e = rewritten id make F kind.at_is kind.bytes_are old mid new result (subst (λ (k : ℕ). rewritten_at a_byte old ≡ Some (k, mid)) is begun) e

pub no_id_rewritten : (old new : Rewriting) (fault : Fault) → Gives a_byte old new (Err fault) → Rewrites name_subsection old new (Err fault)
unfolding name_subsection
no_id_rewritten old new (faults.Malformed m) none = rw none refl
no_id_rewritten old new faults.Memory none = none

pub unknown_bytes : (id : ℕ) → 11 < id → (v : List ℕ) → name_subsection.bytes (unknown id v) ≡ id ∷ byte_list.bytes v
unfolding name_subsection
unknown_bytes id far v = rw (other id 0 (omega (arith, far)), other id 1 (omega (arith, far)), other id 2 (omega (arith, far)), other id 3 (omega (arith, far)), other id 4 (omega (arith, far)), other id 5 (omega (arith, far)), other id 6 (omega (arith, far)), other id 7 (omega (arith, far)), other id 8 (omega (arith, far)), other id 9 (omega (arith, far)), other id 10 (omega (arith, far)), other id 11 (omega (arith, far))) refl

pub unknown_in_range : (id : ℕ) → 11 < id → id < 256 → (v : List ℕ) → IsBytes v → length v < 2 ^ 32 → name_subsection.InRange (unknown id v)
unfolding name_subsection
unknown_in_range id far small v are few = rw (other id 0 (omega (arith, far)), other id 1 (omega (arith, far)), other id 2 (omega (arith, far)), other id 3 (omega (arith, far)), other id 4 (omega (arith, far)), other id 5 (omega (arith, far)), other id 6 (omega (arith, far)), other id 7 (omega (arith, far)), other id 8 (omega (arith, far)), other id 9 (omega (arith, far)), other id 10 (omega (arith, far)), other id 11 (omega (arith, far)), lt-ltb 11 id far) (((small, refl), (are, few)), refl)

pub unknown_rewritten : (id : ℕ) → 11 < id → (old mid new : Rewriting) (result : Result (Unit {0}) Fault) → rewritten_at a_byte old ≡ Some (id, mid) → Rewrites (sized bytes_to_end) mid new result → Rewrites name_subsection old new result
unknown_rewritten id far old mid new result begun e = rewritten id (unknown id) bytes_to_end (unknown_at id far) (unknown_bytes id far) old mid new result begun e

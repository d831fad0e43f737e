-- The laws of modules whose custom sections have minimally encoded contents.
use Rattle.std.specs.Borrow.{GName}
use Rattle.std.proofs.Common.{◌≡◌, ◌∙◌, ℕ, ◌+◌, ◌^◌, ◌<◌, ◌≤◌, inl, inr, true, List, [], ◌∷◌, ◌++◌, length, take, drop, Option, Some, None, Result, Ok, Err, is_ok, IfOk, refl, sym, ap, subst, append_assoc, length-append, arith}
use Rattle.std.specs.List.{AllByRecursion}
use Rattle.std.proofs.lemmas.List.{flat_map_more, append-nil, take_at, drop_at}
use Rattle.std.specs.Prelude.{codes}
use Rattle.wasm_codec.specs.Lawful.{IsLawful, IsLawfulBody}
use Rattle.wasm_codec.specs.Outcomes.{EncodesSome, IsNormalForm}
use Rattle.wasm_codec.specs.Places.{Place, place, keeps}
use Rattle.wasm_codec.specs.Rewriter.{rest_of, Rewriting, rewriting, rewriting_after, Rewrites, skipped}
use Rattle.wasm_codec.specs.declared.reader.cursor.Fault.{Fault}
use Rattle.wasm_codec.specs.declared.reader.cursor.Fault.TheVariants as faults
use Rattle.wasm_codec.specs.formats.Combinators.{Format, ◌⊗◌, items, minimal_only}
use Rattle.wasm_codec.specs.formats.Grammar.{AByte, IsBytes, Joined}
use Rattle.wasm_codec.proofs.BodyLaws.{Lawful-then-body, Lawful-sized, encodes_one}
use Rattle.wasm_codec.proofs.FormatLaws.{Lawful-byte, Lawful-both, not_longer}
use Rattle.wasm_codec.proofs.Laws.{some_is}
use Rattle.wasm_codec.proofs.RewriterLaws.{is_after}
use Rattle.wasm_externals.specs.formats.Names.{name}
use Rattle.wasm_externals.proofs.NameLaws.{name_is_lawful}
use Rattle.wasm_code.specs.formats.Modules.{raw_module, raw_section}
use Rattle.wasm_code.specs.formats.Sections.{SectionParts, header}
use Rattle.wasm_code.proofs.ModuleFormatLaws.{Lawful-raw-module, Lawful-raw-section}
use Rattle.wasm_code.proofs.SectionWalks.{next_section, no_section, none_left, section_takes}
use Rattle.wasm_sections.specs.formats.EntryParts.{CustomParts}
use Rattle.wasm_sections.specs.formats.ModuleSectionParts.{custom}
use Rattle.wasm_sections.specs.formats.ModuleSections.{IsMinimalSection, KeepsMinimal, MinimalWholeModule, module_section}
use Rattle.wasm_sections.specs.formats.Sections.{custom_body}
use Rattle.wasm_sections.proofs.CustomLaws.{custom_is_lawful}
use Rattle.wasm_sections.proofs.ModuleSectionLaws.{custom_kind, module_section_is_lawful}
use Rattle.wasm_sections.proofs.RawSections.{raw_sections, whole_again}
use Rattle.wasm_custom_sections.specs.MinimalContents.{AreMinimised, none, more, DecodesNext, HasContents, HasMinimalContents, IsDecodedAs, IsMinimised, Minimises, MinimisesContents, MinimisesNext, WritesNext, section_with, MinimisesSoFar}
use Rattle.wasm_custom_sections.specs.NamedSections.{named}
use Rattle.wasm_custom_sections.specs.declared.contents.Decoded.{Decoded}
use Rattle.wasm_custom_sections.specs.declared.contents.Decoded.TheVariants as decoded
use Rattle.wasm_custom_sections.specs.formats.Names.{name_data}
use Rattle.wasm_custom_sections.specs.formats.Producers.{producers_field}
use Rattle.wasm_custom_sections.proofs.ProducerLaws.{field_is_lawful}
use Rattle.wasm_sections.proofs.ModuleSectionLaws.{list_body_is_lawful}
use Rattle.wasm_custom_sections.proofs.SubsectionLaws.{name_data_is_lawful}

-- a name, and contents to the end
pub named_is_lawful : {V : Type 0} {F : Format V} → IsLawfulBody F → IsLawfulBody (name ⊗ F)
named_is_lawful r = Lawful-then-body name_is_lawful (λ n. r)

section_is_lawful : {V : Type 0} {F : Format V} → IsLawfulBody F → IsLawful (section_with F)
section_is_lawful r = Lawful-both Lawful-byte (Lawful-sized (named_is_lawful r))

-- the section that is read is the one that was
pub next_found : {E : Type 0} (bytes : List ℕ) (start new : Place) (s : SectionParts) (r : Result (Option Decoded) E) → start ≡ place true bytes → raw_section.at start ≡ Some (s, new) → IfOk r (IsDecodedAs s) → IfOk r (DecodesNext bytes)
next_found bytes start new s (Ok found) is read h = λ section after e.
    let same = some_is (s, new) (section, after) (sym read ∙ ap raw_section.at is ∙ e) in
    subst (λ (x : SectionParts). IsDecodedAs x found) (ap (λ (x : SectionParts × Place). x.0) same) h
next_found bytes start new s (Err e) is read h = tt

clash : {A : Type 0} {x : A} → None ≡ Some x → ⊥
clash e = absurd cc

-- ---- a section with contents of a format, with and without them decoded

-- a section with contents is one with a body as bytes
record HasBody {V : Type 0} (F : Format V) (prefix : List ℕ) (v : ℕ × (List ℕ × V)) : Type 0 where
  pub section : SectionParts
  pub contents : List ℕ
  pub encodes : raw_section.Encodes prefix section
  pub id_is : section.id ≡ v.0
  pub custom : custom_body.Encodes section.body (named v.1.0 contents)
  pub decodes : F.Encodes contents v.1.1

module _ {V : Type 0} {F : Format V} (r : IsLawfulBody F) where
  body_of : (prefix : List ℕ) (v : ℕ × (List ℕ × V)) → (section_with F).Encodes prefix v → HasBody F prefix v
  unfolding raw_section custom_body
  body_of prefix v g =
      let s = g.4 in
      let n = s.4 in
      record {
        section = record { id = v.0; body = s.1 };
        contents = n.1;
        encodes = ((v.0, s.1), (g.0, g.1, g.2, g.3, (s.0, s.1, s.2, s.3, (refl, (named_is_lawful r).are_bytes s.1 v.1 n))), refl);
        id_is = refl;
        custom = ((v.1.0, n.1), (n.0, n.1, n.2, n.3, (refl, r.are_bytes n.1 v.1.1 n.4)), refl);
        decodes = n.4;
      }

  with_contents : (prefix : List ℕ) (s : SectionParts) (c : CustomParts) (v : V) → raw_section.Encodes prefix s → custom_body.Encodes s.body c → F.Encodes c.data_bytes v → (section_with F).Encodes prefix (s.id, (c.name, v))
  unfolding raw_section custom_body
  with_contents prefix s c v g h d =
      let sized = g.1.4 in
      let id : g.0.0 ≡ s.id = ap (λ (x : SectionParts). x.id) g.2 in
      let body : sized.1 ≡ s.body = sized.4.0 ∙ ap (λ (x : SectionParts). x.body) g.2 in
      let text : h.0.0 ≡ c.name = ap (λ (x : CustomParts). x.name) h.2 in
      let contents : h.1.1 ≡ c.data_bytes = h.1.4.0 ∙ ap (λ (x : CustomParts). x.data_bytes) h.2 in (
        g.1.0,
        g.1.1,
        g.1.2,
        subst (AByte g.1.0) id g.1.3,
        (
          sized.0,
          sized.1,
          sized.2,
          sized.3,
          (h.1.0, h.1.1, body ∙ h.1.2, subst (λ (t : List ℕ). name.Encodes h.1.0 t) text h.1.3, subst (λ (t : List ℕ). F.Encodes t v) (sym contents) d),
        ),
      )

  bytes_are : (v : ℕ × (List ℕ × V)) (text : List ℕ) (w : V) → v.0 ≡ 0 → v.1.0 ≡ text → v.1.1 ≡ w → (section_with F).bytes v ≡ raw_section.bytes (record { id = 0; body = custom_body.bytes (named text (F.bytes w)) })
  unfolding raw_section custom_body
  bytes_are v text w id called is = rw (id, called, is) refl

  -- ---- such a section that was rewritten

  module _ (text : List ℕ) (is_minimised : (s m : SectionParts) → Minimises text F s m → IsMinimised s m) (old new : Rewriting) (fits : IsBytes old.place.left) (has : (s : SectionParts) (after : Place) → raw_section.at (place true old.place.left) ≡ Some (s, after) → HasContents text F s) where
    -- one that was read
    one_written : rewriting_after (section_with F) old ≡ Some new → WritesNext old new
    one_written e =
        let one = is_after (section_with F) old new e in
        let v = one.value in
        let b = (section_is_lawful r).reads.sound old.place v new.place fits one.given.is_read in
        let raw = body_of b.prefix v b.encodes in
        let s = raw.section in
        let plain = ap (λ (l : List ℕ). raw_section.at (place true l)) b.parts ∙ Lawful-raw-section.reads.complete b.prefix s new.place.left true raw.encodes in
        let h = has s (place (keeps true b.prefix (raw_section.bytes s)) new.place.left) plain in
        let same : h.custom ≡ named v.1.0 raw.contents = encodes_one custom_is_lawful s.body h.custom (named v.1.0 raw.contents) h.holds raw.custom in
        let inside = subst (λ (c : CustomParts). F.Encodes c.data_bytes h.value) same h.contents.1 in
        let value : v.1.1 ≡ h.value = sym (encodes_one r raw.contents h.value v.1.1 inside raw.decodes) in
        let called : v.1.0 ≡ text = sym (ap (λ (c : CustomParts). c.name) same) ∙ h.contents.0 in
        let there = Lawful-raw-section.reads.complete b.prefix s new.place.left old.place.minimal raw.encodes in
        let minimal : SectionParts = record { id = 0; body = custom_body.bytes (named text (F.bytes h.value)) } in
        let bytes = (section_with F).bytes v in
        let minimal_is : bytes ≡ raw_section.bytes minimal = bytes_are v text h.value (sym raw.id_is ∙ h.is_custom) called value in
        let shorter : length bytes ≤ length b.prefix = not_longer b.prefix bytes ((section_is_lawful r).minimal.least b.prefix v b.encodes) in
        let read : length old.place.left ≡ length b.prefix + length new.place.left = ap (length {A = ℕ}) b.parts ∙ length-append b.prefix new.place.left in
        let wrote : length new.done ≡ length old.done + length bytes = ap (length {A = ℕ}) one.given.written ∙ length-append old.done bytes in
        record {
          section = s;
          after = place (keeps old.place.minimal b.prefix (raw_section.bytes s)) new.place.left;
          is_read = ap (λ (l : List ℕ). raw_section.at (place old.place.minimal l)) b.parts ∙ there;
          minimal = minimal;
          minimised = is_minimised s minimal (record { has = h; is = refl });
          written = one.given.written ∙ ap (λ (t : List ℕ). old.done ++ t) minimal_is;
          left = refl;
          no_longer = omega (arith, shorter, read, wrote);
          rest = one.given.rest;
        }

    -- one that wasn't read is no section
    none_written : (section_with F).at old.place ≡ None → raw_section.at old.place ≡ None
    none_written unread = by (raw_section.at old.place) refl where
      by : (o : Option (SectionParts × Place)) → raw_section.at old.place ≡ o → o ≡ None
      by None e = refl
      by (Some x) e =
          let b = Lawful-raw-section.reads.sound old.place x.0 x.1 fits e in
          let plain = ap (λ (l : List ℕ). raw_section.at (place true l)) b.parts ∙ Lawful-raw-section.reads.complete b.prefix x.0 x.1.left true b.encodes in
          let h = has x.0 (place (keeps true b.prefix (raw_section.bytes x.0)) x.1.left) plain in
          let g = with_contents b.prefix x.0 h.custom h.value b.encodes h.holds h.contents.1 in
          let v : ℕ × (List ℕ × V) = (x.0.id, (h.custom.name, h.value)) in
          let read = ap (λ (l : List ℕ). (section_with F).at (place old.place.minimal l)) b.parts ∙ (section_is_lawful r).reads.complete b.prefix v x.1.left old.place.minimal g in
          absurd (clash (sym unread ∙ read))

    pub typed_written : (result : Result (Unit {0}) Fault) → Rewrites (section_with F) old new result → MinimisesNext old new result
    typed_written (Ok done) e = one_written e
    typed_written (Err (faults.Malformed m)) unread = none_written unread
    typed_written (Err faults.Memory) never = tt

-- ---- the next section

module _ (old new : Rewriting) (fits : IsBytes old.place.left) (result : Result (Unit {0}) Fault) where
  pub names_written : DecodesNext old.place.left (Some decoded.Names) → Rewrites (section_with name_data) old new result → MinimisesNext old new result
  names_written has e = typed_written name_data_is_lawful (codes "name") (λ s m k. inl k) old new fits has result e

  pub producers_written : DecodesNext old.place.left (Some decoded.Producers) → Rewrites (section_with (items producers_field)) old new result → MinimisesNext old new result
  producers_written has e = typed_written (list_body_is_lawful field_is_lawful) (codes "producers") (λ s m k. inr (inl k)) old new fits has result e

-- a section whose contents stay
pub other_written : (old new : Rewriting) → IsBytes old.place.left → (result : Result (Unit {0}) Fault) → DecodesNext old.place.left None → Rewrites raw_section old new result → MinimisesNext old new result
other_written old new fits (Ok done) has e =
    let one = is_after raw_section old new e in
    let b = Lawful-raw-section.reads.sound old.place one.value new.place fits one.given.is_read in
    let plain = ap (λ (l : List ℕ). raw_section.at (place true l)) b.parts ∙ Lawful-raw-section.reads.complete b.prefix one.value new.place.left true b.encodes in
    let bytes = raw_section.bytes one.value in
    let shorter : length bytes ≤ length b.prefix = not_longer b.prefix bytes (Lawful-raw-section.minimal.least b.prefix one.value b.encodes) in
    let read : length old.place.left ≡ length b.prefix + length new.place.left = ap (length {A = ℕ}) b.parts ∙ length-append b.prefix new.place.left in
    let wrote : length new.done ≡ length old.done + length bytes = ap (length {A = ℕ}) one.given.written ∙ length-append old.done bytes in
    let others = has one.value (place (keeps true b.prefix (raw_section.bytes one.value)) new.place.left) plain in
    record {
      section = one.value;
      after = new.place;
      is_read = one.given.is_read;
      minimal = one.value;
      minimised = inr (inr (refl, others.0, others.1));
      written = one.given.written;
      left = refl;
      no_longer = omega (arith, shorter, read, wrote);
      rest = one.given.rest;
    }
other_written old new fits (Err (faults.Malformed m)) has unread = unread
other_written old new fits (Err faults.Memory) has never = tt

-- ---- all sections

more_minimised : {sections minimal : List SectionParts} (s m : SectionParts) → AreMinimised sections minimal → IsMinimised s m → AreMinimised (sections ++ s ∷ []) (minimal ++ m ∷ [])
more_minimised s m none one = more one none
more_minimised s m (more first rest) one = more first (more_minimised s m rest one)

pub minimising_none : (bytes rest : List ℕ) (new here : Rewriting) → bytes ≡ header ++ rest → {name : GName} → new ≡ rewriting [] (place true bytes) (rest_of [] name) → here ≡ skipped 8 new → MinimisesSoFar bytes here
minimising_none bytes rest new here found {name} new-is here-is sections g =
    let is : here ≡ skipped 8 (rewriting [] (place true bytes) (rest_of [] name)) = here-is ∙ ap (skipped 8) new-is in
    let done : here.done ≡ header = ap (λ (r : Rewriting). r.done) is ∙ ap (take 8) found ∙ take_at header rest 8 refl in
    let left : here.place.left ≡ g.0 = ap (λ (r : Rewriting). r.place.left) is ∙ ap (drop 8) g.1 ∙ drop_at header g.0 8 refl in
    record {
      before = [];
      rest = sections;
      parts = refl;
      encodes = subst (λ (l : List ℕ). Joined raw_section.Encodes l sections) (sym left) g.2;
      minimal = [];
      minimised = none;
      written = done ∙ sym (append-nil header);
      no_longer = omega (arith, ap (length {A = ℕ}) done, ap (length {A = ℕ}) left, ap (length {A = ℕ}) g.1, length-append header g.0);
    }

pub written_next : (here next : Rewriting) (r : Result (Unit {0}) Fault) → MinimisesNext here next r → is_ok r ≡ true → WritesNext here next
written_next here next (Ok done) w ok = w
written_next here next (Err fault) w ok = absurd cc

pub written_fewer : (here next : Rewriting) → IsBytes here.place.left → WritesNext here next → length next.place.left < length here.place.left
written_fewer here next fits w = omega (arith, section_takes here.place w.after w.section fits w.is_read, ap (length {A = ℕ}) w.left)

pub minimising_more : (bytes : List ℕ) (here next : Rewriting) → MinimisesSoFar bytes here → 0 < length here.place.left → WritesNext here next → MinimisesSoFar bytes next
minimising_more bytes here next so_far some w sections g =
    let now = so_far sections g in
    let head = next_section here.place w.after w.section now.rest some now.encodes w.is_read in
    record {
      before = now.before ++ w.section ∷ [];
      rest = head.after;
      parts = now.parts ∙ ap (λ (l : List SectionParts). now.before ++ l) head.is ∙ sym (append_assoc now.before (w.section ∷ []) head.after);
      encodes = subst (λ (l : List ℕ). Joined raw_section.Encodes l head.after) (sym w.left) head.encodes;
      minimal = now.minimal ++ w.minimal ∷ [];
      minimised = more_minimised w.section w.minimal now.minimised w.minimised;
      written = w.written ∙ ap (λ (t : List ℕ). t ++ raw_section.bytes w.minimal) now.written ∙ flat_map_more raw_section.bytes header now.minimal w.minimal;
      no_longer = omega (arith, now.no_longer, w.no_longer);
    }

-- all were
pub minimised_all : (bytes : List ℕ) (here : Rewriting) → MinimisesSoFar bytes here → here.place.left ≡ [] → MinimisesContents bytes here.done
minimised_all bytes here so_far none-left sections g =
    let now = so_far sections g in
    let rest : now.rest ≡ [] = none_left now.rest (subst (λ (l : List ℕ). Joined raw_section.Encodes l now.rest) none-left now.encodes) in
    record {
      minimal = now.minimal;
      minimised = subst (λ (l : List SectionParts). AreMinimised l now.minimal) (sym (now.parts ∙ ap (λ (l : List SectionParts). now.before ++ l) rest ∙ append-nil now.before)) now.minimised;
      written = now.written;
      no_longer = omega (arith, now.no_longer);
    }

-- bytes that encode no sections have none
pub minimised_nowhere : (bytes : List ℕ) (here : Rewriting) → MinimisesSoFar bytes here → 0 < length here.place.left → raw_section.at here.place ≡ None → (sections : List SectionParts) → raw_module.Encodes bytes sections → ⊥
minimised_nowhere bytes here so_far some read sections g = no_section here.place (so_far sections g).rest some (so_far sections g).encodes read

-- ---- a module of any encoding

module _ (bytes module_bytes : List ℕ) (normal : IsNormalForm raw_module.Encodes raw_module.bytes bytes module_bytes) where
  pub given_minimal : (minimal : List ℕ) → MinimisesContents module_bytes minimal → (sections : List SectionParts) × raw_module.Encodes bytes sections × HasMinimalContents sections minimal (length bytes)
  given_minimal minimal h =
      let sections = normal.value in
      let again = Lawful-raw-module.minimal.again bytes sections normal.encoded in
      let has = h sections (subst (λ (t : List ℕ). raw_module.Encodes t sections) (sym normal.is_minimal) again) in
      let short = not_longer bytes (raw_module.bytes sections) (Lawful-raw-module.minimal.least bytes sections normal.encoded) in (
        sections,
        normal.encoded,
        record {
          minimal = has.minimal;
          minimised = has.minimised;
          written = has.written;
          no_longer = omega (arith, has.no_longer, short, ap (length {A = ℕ}) normal.is_minimal);
        },
      )

-- ---- minimally encoded modules

in_range : (c : CustomParts) → custom_body.InRange c × (length (custom_body.bytes c) < 2 ^ 32) → module_section.InRange (custom c)
unfolding module_section
in_range c r = (r, refl)

-- a section with minimal contents is minimally encoded
named_minimal : {V : Type 0} {F : Format V} → IsLawfulBody F → (text : List ℕ) (s m : SectionParts) → Minimises text F s m → raw_section.InRange s → IsMinimalSection m
unfolding raw_section custom_body
named_minimal {V} {F} r text s m k fits =
    let has = k.has in
    let minimal = F.bytes has.value in
    let c : CustomParts = named text minimal in
    let encoded : F.Encodes has.custom.data_bytes has.value = has.contents.1 in
    let are : IsBytes minimal = r.are_bytes minimal has.value (r.minimal.again has.custom.data_bytes has.value encoded) in
    let called : name.InRange text = subst name.InRange has.contents.0 (custom_is_lawful.in_range s.body has.custom has.holds).0.0 in
    let shorter = not_longer has.custom.data_bytes minimal (r.minimal.least has.custom.data_bytes has.value encoded) in
    let body = not_longer s.body (custom_body.bytes has.custom) (custom_is_lawful.minimal.least s.body has.custom has.holds) in
    let old = length-append (name.bytes has.custom.name) has.custom.data_bytes in
    let new = length-append (name.bytes text) minimal in
    let same = ap (λ (t : List ℕ). length (name.bytes t)) has.contents.0 in
    let short : length (custom_body.bytes c) < 2 ^ 32 = omega (arith, shorter, body, old, new, same, fits.0.1.1) in
    let encodes : module_section.Encodes (module_section.bytes (custom c)) (custom c) = module_section_is_lawful.minimal.encodes (custom c) (in_range c (((called, are), refl), short)) in
    rw k.is (custom c, subst (λ (b : List ℕ). (minimal_only module_section).Encodes b (custom c)) (custom_kind.bytes_are c) (encodes, refl))

one_minimal : (s m : SectionParts) → IsMinimised s m → raw_section.InRange s → IsMinimalSection s → IsMinimalSection m
one_minimal s m (inl k) fits minimal = named_minimal name_data_is_lawful (codes "name") s m k fits
one_minimal s m (inr (inl k)) fits minimal = named_minimal (list_body_is_lawful field_is_lawful) (codes "producers") s m k fits
one_minimal s m (inr (inr other)) fits minimal = subst IsMinimalSection (sym other.0) minimal

all_minimal : {sections minimal : List SectionParts} → AreMinimised sections minimal → AllByRecursion raw_section.InRange sections → AllByRecursion IsMinimalSection sections → AllByRecursion IsMinimalSection minimal
all_minimal none fits all = tt
all_minimal (more {s = s} {m = m} one rest) fits all = (one_minimal s m one fits.0 all.0, all_minimal rest fits.1 all.1)

-- a minimally encoded module stays one with minimal contents
pub minimal_contents : (bytes result : List ℕ) → MinimisesContents bytes result → KeepsMinimal bytes result
minimal_contents bytes result h g =
    let raw = raw_sections bytes g in
    let w = h raw.sections raw.encodes in
    let fits = Lawful-raw-module.in_range bytes raw.sections raw.encodes in
    subst (EncodesSome MinimalWholeModule) (sym w.written) (whole_again w.minimal (all_minimal w.minimised fits raw.minimal))

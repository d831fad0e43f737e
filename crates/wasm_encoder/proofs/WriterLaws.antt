-- The laws of modules that are being written.
use Rattle.std.proofs.Common.{◌≡◌, ℕ, List, [], ◌∷◌, ◌++◌, Result, Ok, Err, refl, sym, ap, ◌∙◌, subst, arith, append_assoc, length-append}
use Rattle.std.specs.Prelude.{Option, OnOk, IfOk, IfErr}
use Rattle.std.specs.Io.KnownBytes.{Appends, Keeps}
use Rattle.std.proofs.KnownBytes.{Appends-trans, Appends-kept, Keeps-refl}
use Rattle.std.specs.declared.io.Error.{Error}
use Rattle.wasm_codec.specs.declared.encode.EncodeError.{EncodeError}
use Rattle.wasm_encoder.specs.declared.module_writer.WriteError.{WriteError}
use Rattle.wasm_encoder.specs.declared.module_writer.WriteError.TheVariants as errors
use Rattle.wasm_encoder.proofs.WholeModuleLaws.{appends_section, no_sections}
use Rattle.wasm_codec.specs.Encoding.{byte_list_bytes, IsRefusal, OnlyTooLong}
use Rattle.wasm_codec.specs.Streams.{AppendsPrefix, WritesAll}
use Rattle.wasm_code.specs.formats.Sections.{header}
use Rattle.wasm_sections.specs.formats.ModuleSectionParts.{ModuleSectionParts}
use Rattle.wasm_encoder.specs.BuiltModules.{AppendsSection}
use Rattle.wasm_encoder.specs.EncodedLists.{EncodedItems, CountedSection, body_bytes}
use Rattle.wasm_encoder.specs.WrittenModules.{EncodesInParts, IsWrittenModule, WritesSection}

-- ---- bytes in two parts

-- what is written of the second part follows the first part
pub after_front : {T E : Type 0} (a b c : Option (List ℕ)) (front rest whole : List ℕ) (r : Result T E) → front ++ rest ≡ whole → Appends a b front → WritesAll rest b c r → WritesAll whole a c r
after_front a b c front rest whole (Ok x) is first second = record {
  ok = subst (Appends a c) is (Appends-trans a b c front rest first second.ok);
  err = tt;
}
after_front a b c front rest whole (Err e) is first second = record {
  ok = tt;
  err = record {
    prefix = front ++ second.err.prefix;
    rest = second.err.rest;
    parts = sym is ∙ ap (λ (t : List ℕ). front ++ t) second.err.parts ∙ sym (append_assoc front second.err.prefix second.err.rest);
    left = second.err.left;
    appended = Appends-trans a b c front second.err.prefix first second.err.appended;
  };
}

-- a proper prefix of the first part is one of the whole
pub only_front : (a b : Option (List ℕ)) (front rest whole : List ℕ) → front ++ rest ≡ whole → AppendsPrefix a b front → AppendsPrefix a b whole
only_front a b front rest whole is first = record {
  prefix = first.prefix;
  rest = first.rest ++ rest;
  parts = sym is ∙ ap (λ (t : List ℕ). t ++ rest) first.parts ∙ append_assoc first.prefix first.rest rest;
  left = let more = first.left in omega (arith, length-append first.rest rest);
  appended = first.appended;
}

-- ---- modules

-- a header is a module without sections
pub header_written : (a b : Option (List ℕ)) → Appends a b header → IsWrittenModule a b []
header_written a b written = record { bytes = header; appended = written; minimal = no_sections header refl }

-- a module is written still if the contents stay
pub still_written : (start a b : Option (List ℕ)) (sections : List ModuleSectionParts) → IsWrittenModule start a sections → Keeps a b → IsWrittenModule start b sections
still_written start a b sections written kept = record { bytes = written.bytes; appended = Appends-kept start a b written.bytes written.appended kept; minimal = written.minimal }

-- ---- sections

module _ (id : ℕ) (encoding : List ℕ) (Can Written : Type 0) (Refused : EncodeError → Type 0) (was old after new : Option (List ℕ)) where
  -- a section that has no encoding
  pub not_encoded : (error : WriteError) (e : EncodeError) → error ≡ errors.Encode e → Refused e → was ≡ old → was ≡ new → WritesSection id encoding Can Written Refused old new (Err error)
  not_encoded error e is refused before then =
      subst (λ (w : WriteError). WritesSection id encoding Can Written Refused old new (Err w)) (sym is)
      (record { appended = tt; goes_on = λ start bytes written. tt; whole = λ start sections added written after. tt; refused = (refused, subst (λ (o : Option (List ℕ)). Keeps o new) before (subst (Keeps was) then (Keeps-refl was))); failed = tt })

  -- a section that is written in part
  pub not_written : (section : List ℕ) (error : WriteError) (e : Error) → error ≡ errors.Io e → section ≡ id ∷ encoding → AppendsPrefix was after section → was ≡ old → after ≡ new → WritesSection id encoding Can Written Refused old new (Err error)
  not_written section error e is whole prefix before then =
      let of_section : AppendsPrefix was new (id ∷ encoding) = subst (AppendsPrefix was new) whole (subst (λ (o : Option (List ℕ)). AppendsPrefix was o section) then prefix) in
      subst (λ (w : WriteError). WritesSection id encoding Can Written Refused old new (Err w)) (sym is)
      (record { appended = tt; goes_on = λ start bytes written. tt; whole = λ start sections added written after. tt; refused = tt; failed = subst (λ (o : Option (List ℕ)). AppendsPrefix o new (id ∷ encoding)) before of_section })

  -- a section that is written
  pub section_written : (section : List ℕ) → section ≡ id ∷ encoding → Can → Written → Appends was after section → was ≡ old → after ≡ new → WritesSection id encoding Can Written Refused old new (Ok tt)
  section_written section whole can written appends before then =
      let of_section : Appends was new (id ∷ encoding) = subst (Appends was new) whole (subst (λ (o : Option (List ℕ)). Appends was o section) then appends) in
      let appended : Appends old new (id ∷ encoding) = subst (λ (o : Option (List ℕ)). Appends o new (id ∷ encoding)) before of_section in
      let goes_on : (start : Option (List ℕ)) (bytes : List ℕ) → Appends start old bytes → Appends start new (bytes ++ id ∷ encoding) × AppendsSection id encoding Can Written Refused bytes (bytes ++ id ∷ encoding) (Ok tt) =
      λ start bytes already. (Appends-trans start old new bytes (id ∷ encoding) already appended, appends_section bytes bytes (bytes ++ id ∷ encoding) encoding id id Can Written Refused (Ok tt) refl refl refl can written tt tt) in
      record {
        appended = appended;
        goes_on = goes_on;
        whole = λ start sections added before after. let both = goes_on start before.bytes before.appended in record { bytes = before.bytes ++ id ∷ encoding; appended = both.0; minimal = both.1.whole sections added before.minimal after };
        refused = tt;
        failed = tt;
      }

-- a list that is encoded in parts
pub list_in_parts : (list section : EncodedItems) (byte id : ℕ) (Written : Type 0) (r : Result (List ℕ) EncodeError) → list ≡ section → byte ≡ id → (CountedSection section → Written)
    → IfOk r (λ bytes. bytes ≡ byte ∷ byte_list_bytes (body_bytes list)) → OnOk r (CountedSection list) → IfErr r (IsRefusal CountedSection OnlyTooLong list)
    → EncodesInParts id (byte_list_bytes (body_bytes section)) (CountedSection section) Written (IsRefusal CountedSection OnlyTooLong section) r
list_in_parts list section byte id Written (Ok bytes) same is written ok can refused =
    let counted : CountedSection section = subst CountedSection same can in
    record {
      ok = ok ∙ ap (λ (n : ℕ). n ∷ byte_list_bytes (body_bytes list)) is ∙ ap (λ (items : EncodedItems). id ∷ byte_list_bytes (body_bytes items)) same;
      can = counted;
      written = written counted;
      refused = tt;
    }
list_in_parts list section byte id Written (Err e) same is written ok can refused = record {
  ok = tt;
  can = tt;
  written = tt;
  refused = subst (λ (items : EncodedItems). IsRefusal CountedSection OnlyTooLong items e) same refused;
}

-- a number of items and their bytes are the list
pub list_is : (count : ℕ) (bytes : List ℕ) (list section : EncodedItems) → count ≡ list.count → bytes ≡ list.bytes → list ≡ section → record { count = count; bytes = bytes } ≡ section
list_is count bytes list section counted are same =
    ap (λ (n : ℕ). record { count = n; bytes = bytes }) counted ∙ ap (λ (t : List ℕ). record { count = list.count; bytes = t }) are ∙ same

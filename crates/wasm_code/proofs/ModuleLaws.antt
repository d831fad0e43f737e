-- The laws of modules as sections with their bodies as bytes, and of those with types and code decoded.
use Rattle.std.proofs.Common.{◌≡◌, ℕ, List, [], ◌∷◌, ◌++◌, length, Result, Ok, Err, OnOk, refl, sym, ap, ◌∙◌, append_assoc, subst, map}
use Rattle.std.specs.List.{flat_map, AllByRecursion}
use Rattle.wasm_codec.specs.formats.Grammar.{IsBytes}
use Rattle.wasm_codec.specs.Leb128.{unsigned_leb128}
use Rattle.wasm_codec.proofs.Laws.{IsBytes-back}
use Rattle.wasm_codec.proofs.BodyLaws.{IsBytes-prefix}
use Rattle.std.proofs.lemmas.Grind.{flat_map-append}
use Rattle.std.proofs.lemmas.List.{append-nil}
use Rattle.wasm_codec.specs.Encoding.{byte_list_bytes, IsMinimalOrLonger}
use Rattle.wasm_code.specs.formats.Sections.{header, SectionParts, section_of, Content, TypedSection, typed_section_of}
use Rattle.wasm_code.specs.Modules.{IsSection, CanHold, IsTypedSection, framed}
use Rattle.wasm_code.specs.formats.Modules.{raw_section, raw_module, typed_section, typed_module, HoldsContent}
use Rattle.wasm_code.proofs.ModuleFormatLaws.{Lawful-raw-module, Lawful-held, Lawful-decoded-module}

section_in_range : (s : SectionParts) → IsSection s → IsBytes s.body → raw_section.InRange s
unfolding raw_section
section_in_range s fits are = ((fits.id, (are, fits.body)), refl)

section_body : (s : SectionParts) (more : List ℕ) → IsBytes (raw_section.bytes s ++ more) → IsBytes s.body
unfolding raw_section
section_body s more are =
    let one : IsBytes (s.id ∷ (unsigned_leb128 (length s.body) ++ s.body)) = IsBytes-prefix (s.id ∷ (unsigned_leb128 (length s.body) ++ s.body)) more are in
    IsBytes-back (unsigned_leb128 (length s.body)) s.body one.1

-- sections whose encodings are bytes have bodies of bytes
sections_in_range : (sections : List SectionParts) → AllByRecursion IsSection sections → IsBytes (flat_map raw_section.bytes sections) → AllByRecursion raw_section.InRange sections
sections_in_range [] fits are = tt
sections_in_range (s ∷ sections) fits are =
    (section_in_range s fits.0 (section_body s (flat_map raw_section.bytes sections) are), sections_in_range sections fits.1 (IsBytes-back (raw_section.bytes s) (flat_map raw_section.bytes sections) are))

-- a module that was written is read back
pub all_encoded : (bytes : List ℕ) (sections : List SectionParts) → IsBytes bytes → AllByRecursion IsSection sections → bytes ≡ raw_module.bytes sections → raw_module.Encodes bytes sections
all_encoded bytes sections are fits e =
    let within : IsBytes (header ++ flat_map raw_section.bytes sections) = subst IsBytes e are in
    subst (λ (t : List ℕ). raw_module.Encodes t sections) (sym e) (Lawful-raw-module.minimal.encodes sections (sections_in_range sections fits (IsBytes-back header (flat_map raw_section.bytes sections) within)))

-- a module with one section more
pub one_section_more : (old new encoding body : List ℕ) (sections : List SectionParts) (id : ℕ) → old ≡ raw_module.bytes sections → encoding ≡ byte_list_bytes body → new ≡ old ++ id ∷ encoding → new ≡ raw_module.bytes (sections ++ section_of (id, body) ∷ [])
unfolding raw_section
one_section_more old new encoding body sections id written is appended =
    let s : SectionParts = section_of (id, body) in
    let alone : flat_map raw_section.bytes (s ∷ []) ≡ id ∷ byte_list_bytes body = append-nil (id ∷ byte_list_bytes body) in
    let more : flat_map raw_section.bytes (sections ++ s ∷ []) ≡ flat_map raw_section.bytes sections ++ id ∷ byte_list_bytes body = flat_map-append raw_section.bytes sections (s ∷ []) ∙ ap (λ (t : List ℕ). flat_map raw_section.bytes sections ++ t) alone in
    appended ∙ ap (λ (t : List ℕ). t ++ id ∷ encoding) written ∙ ap (λ (t : List ℕ). (header ++ flat_map raw_section.bytes sections) ++ id ∷ t) is
    ∙ append_assoc header (flat_map raw_section.bytes sections) (id ∷ byte_list_bytes body) ∙ ap (λ (t : List ℕ). header ++ t) (sym more)

pub goes_on : {T E : Type 0} (r : Result T E) (old new encoding body : List ℕ) (sections : List SectionParts) (id : ℕ) → OnOk r (new ≡ old ++ id ∷ encoding) → old ≡ raw_module.bytes sections → encoding ≡ byte_list_bytes body
    → OnOk r (new ≡ raw_module.bytes (sections ++ section_of (id, body) ∷ []))
goes_on (Ok x) old new encoding body sections id appended written is = one_section_more old new encoding body sections id written is appended
goes_on (Err e) old new encoding body sections id appended written is = tt

pub raw_minimal : (sections : List SectionParts) (bytes : List ℕ) → raw_module.Encodes bytes sections → IsMinimalOrLonger bytes (raw_module.bytes sections)
raw_minimal sections bytes g = Lawful-raw-module.minimal.least bytes sections g

-- ---- sections in range

typed_section_in_range : (s : TypedSection) → IsTypedSection s → typed_section.InRange s
unfolding typed_section
typed_section_in_range s fits = ((fits.section.id, (fits.content, fits.section.body)), refl)

typed_sections_in_range : (sections : List TypedSection) → AllByRecursion IsTypedSection sections → AllByRecursion typed_section.InRange sections
typed_sections_in_range [] fits = tt
typed_sections_in_range (s ∷ sections) fits = (typed_section_in_range s fits.0, typed_sections_in_range sections fits.1)

-- their minimal encoding encodes them
pub all_typed_encoded : (bytes : List ℕ) (sections : List TypedSection) → AllByRecursion IsTypedSection sections → bytes ≡ typed_module.bytes sections → typed_module.Encodes bytes sections
all_typed_encoded bytes sections fits e = subst (λ (t : List ℕ). typed_module.Encodes t sections) (sym e) (Lawful-decoded-module.minimal.encodes sections (typed_sections_in_range sections fits))

-- ---- a typed module as sections

section_framed : (id : ℕ) (c : Content) → typed_section.bytes (typed_section_of (id, c)) ≡ raw_section.bytes (framed (typed_section_of (id, c)))
unfolding typed_section raw_section
section_framed id c = refl

sections_framed : (sections : List TypedSection) → AllByRecursion IsTypedSection sections → flat_map typed_section.bytes sections ≡ flat_map raw_section.bytes (map framed sections)
sections_framed [] fits = refl
sections_framed (s ∷ sections) fits =
    ap (λ (t : List ℕ). t ++ flat_map typed_section.bytes sections) (section_framed s.id s.content)
    ∙ ap (λ (t : List ℕ). raw_section.bytes (framed s) ++ t) (sections_framed sections fits.1)

pub module_framed : (sections : List TypedSection) → AllByRecursion IsTypedSection sections → typed_module.bytes sections ≡ raw_module.bytes (map framed sections)
module_framed sections fits = ap (λ (t : List ℕ). header ++ t) (sections_framed sections fits)

pub all_framed : (sections : List TypedSection) → AllByRecursion IsTypedSection sections → AllByRecursion IsSection (map framed sections)
all_framed [] fits = tt
all_framed (s ∷ sections) fits = (fits.0.section, all_framed sections fits.1)

-- what was written of a section encodes what it holds
pub is_held : (id : ℕ) (c : Content) → CanHold id c → HoldsContent (framed (typed_section_of (id, c))) c
is_held id c fits = (Lawful-held id).minimal.encodes c fits

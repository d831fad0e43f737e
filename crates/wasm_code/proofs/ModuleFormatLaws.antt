-- The laws of the formats of sections and modules.
use Rattle.std.specs.Borrow.{GName}
use Rattle.std.proofs.Common.{◌≡◌, ◌↔◌, ℕ, eqb, List, ◌++◌, refl, sym, ap, ◌∙◌, lit≤, ◌+◌, ◌-◌, ◌<◌, ◌≤◌, ◌⊎◌, true, false, [], length, take, drop, Option, Some, None, Err, subst, append_assoc, length-append, inl, inr, arith}
use Rattle.std.proofs.lemmas.List.{append_cancel_left, append-nil, take_at, drop_at, take-append-drop}
use Rattle.std.specs.List.{flat_map}
use Rattle.wasm_codec.specs.formats.Grammar.{IsBytes, TakesBytes, Grammar, After, Joined}
use Rattle.wasm_codec.proofs.FormatLaws.{Lawful-byte, Lawful-both, Lawful-then, Lawful-made, takes_bytes}
use Rattle.wasm_codec.specs.Lawful.{IsLawfulBody, IsLawful}
use Rattle.wasm_codec.proofs.BodyLaws.{Lawful-body, Lawful-bytes_to_end, Lawful-made-body, Lawful-choose-body, Lawful-sized, Lawful-byte-list, Lawful-to-end, Lawful-headed-body}
use Rattle.wasm_codec.proofs.MinimalIfLaws.{joined_minimal_only}
use Rattle.wasm_types.proofs.TypeFormatLaws.{Lawful-type-body}
use Rattle.wasm_code.specs.formats.Sections.{header, SectionParts, section_of, type_entries, code_bodies, raw_bytes, typed_section_of}
use Rattle.wasm_code.specs.formats.Modules.{section_parts, raw_section, entries_part, bodies_part, bytes_part, held_by, content_parts, typed_section, module_of, raw_module, MinimalModule, typed_module}
use Rattle.wasm_codec.specs.formats.Combinators.{Format, minimal_only}
use Rattle.wasm_code.proofs.CodeBodyLaws.{Lawful-code-section-body}
use Rattle.std.specs.Prelude.{MatchOption, IfSome, IfNone}
use lib.Pointwise.{pointwise, bytes_decides}
use Rattle.wasm_codec.specs.Outcomes.{IsLongestPrefix, IsNormalForm, EncodesSome}
use Rattle.wasm_codec.specs.declared.reader.ReadError.TheVariants as errors
use Rattle.wasm_codec.specs.Decoding.{RewritesTo}
use Rattle.wasm_codec.specs.Places.{place}
use Rattle.wasm_codec.specs.formats.Bodies.{to_end}
use Rattle.wasm_codec.specs.Rewriter.{rest_of, Rewriting, rewriting, rewriting_after, skipped, StopsAt}
use Rattle.wasm_codec.proofs.BodyRewriting.{joined_done, joined_stopped, stopped_within}

-- ---- sections

pub Lawful-raw-section : IsLawful raw_section
unfolding raw_section
Lawful-raw-section = Lawful-made section_of section_parts (λ p. refl) (Lawful-both Lawful-byte Lawful-byte-list)

pub Lawful-held : (id : ℕ) → IsLawfulBody (held_by id)
Lawful-held id =
    Lawful-choose-body (eqb id 1) (Lawful-body (Lawful-made type_entries entries_part (λ entries. refl) Lawful-type-body))
    (Lawful-choose-body (eqb id 10) (Lawful-body (Lawful-made code_bodies bodies_part (λ bodies. refl) Lawful-code-section-body))
    (Lawful-made-body raw_bytes bytes_part (λ bytes. refl) Lawful-bytes_to_end))

pub Lawful-decoded-section : IsLawful typed_section
unfolding typed_section
Lawful-decoded-section = Lawful-made typed_section_of content_parts (λ p. refl) (Lawful-then Lawful-byte (λ id. Lawful-sized (Lawful-held id)))

pub raw_section_takes : TakesBytes raw_section.Encodes
unfolding raw_section
raw_section_takes = takes_bytes Lawful-raw-section refl

pub typed_section_takes : TakesBytes typed_section.Encodes
unfolding typed_section
typed_section_takes = takes_bytes Lawful-decoded-section refl

-- ---- a section with its body as bytes, and what it holds

-- ---- modules

header_bytes : IsBytes header
header_bytes = (lit≤ tt, (lit≤ tt, (lit≤ tt, (lit≤ tt, (lit≤ tt, (lit≤ tt, (lit≤ tt, (lit≤ tt, tt))))))))

pub Lawful-module-of : {V : Type 0} {F : Format V} → IsLawful F → TakesBytes F.Encodes → IsLawfulBody (module_of F)
Lawful-module-of r some = Lawful-headed-body header header_bytes (Lawful-to-end r some)

pub Lawful-raw-module : IsLawfulBody raw_module
Lawful-raw-module = Lawful-module-of Lawful-raw-section raw_section_takes

pub Lawful-decoded-module : IsLawfulBody typed_module
Lawful-decoded-module = Lawful-module-of Lawful-decoded-section typed_section_takes

-- a module of sections in their minimal encodings is the minimal encoding of its list
module _ {V : Type 0} {F : Format V} (r : IsLawful F) where
  pub is_minimal_module_of : (bytes : List ℕ) (sections : List V) → (module_of (minimal_only F)).Encodes bytes sections ↔ ((module_of F).Encodes bytes sections × (bytes ≡ (module_of F).bytes sections))
  is_minimal_module_of bytes sections = (λ g. whole g, λ g. parts g.0 g.1) where
    whole : (module_of (minimal_only F)).Encodes bytes sections → (module_of F).Encodes bytes sections × (bytes ≡ (module_of F).bytes sections)
    whole g =
        let j = (joined_minimal_only r g.0 sections).0 g.2 in
        ((g.0, g.1, j.0), g.1 ∙ ap (λ (t : List ℕ). header ++ t) j.1)

    parts : (module_of F).Encodes bytes sections → bytes ≡ (module_of F).bytes sections → (module_of (minimal_only F)).Encodes bytes sections
    parts g e =
        let same : g.0 ≡ flat_map F.bytes sections = append_cancel_left header g.0 (flat_map F.bytes sections) (sym g.1 ∙ e) in
        (g.0, g.1, (joined_minimal_only r g.0 sections).1 (g.2, same))

pub is_minimal_module : (bytes : List ℕ) (sections : List SectionParts) → MinimalModule bytes sections ↔ (raw_module.Encodes bytes sections × (bytes ≡ raw_module.bytes sections))
is_minimal_module = is_minimal_module_of Lawful-raw-section

-- the laws of sections, for functions that name them
pub ruleset section_laws = (Lawful-raw-section, raw_section_takes, Lawful-decoded-section, typed_section_takes)

-- ---- the header, and then items

-- the header and items
abbrev pub Headed : {V : Type 0} → Grammar V → Grammar (List V)
Headed G = After header (Joined G)

-- nothing, or the header and items
abbrev pub IsHeadedPrefix : {V : Type 0} → Grammar V → List ℕ → Type 0
IsHeadedPrefix G prefix = (prefix ≡ []) ⊎ EncodesSome (Headed G) prefix

-- the longest whole prefix of the items is the longest whole prefix after the header
pub headed_longest : {V : Type 0} {G : Grammar V} (bytes body : List ℕ) (n : ℕ) → bytes ≡ header ++ body → IsLongestPrefix (EncodesSome (Joined G)) body n → IsLongestPrefix (IsHeadedPrefix G) bytes (8 + n)
headed_longest {V} {G} bytes body n e l = record {
  prefix = header ++ l.prefix;
  rest = l.rest;
  parts = e ∙ ap (λ (t : List ℕ). header ++ t) l.parts ∙ sym (append_assoc header l.prefix l.rest);
  len_is = omega (arith, l.len_is, length-append header l.prefix);
  whole = inr (l.whole.0, (l.prefix, refl, l.whole.1));
  longest = λ other after p w. longest other after p w;
} where
  longest : (other after : List ℕ) → bytes ≡ other ++ after → IsHeadedPrefix G other → length other ≤ 8 + n
  longest other after p (inl none) = rw none (omega arith)
  longest other after p (inr w) =
      let back = w.1.0 in
      let row : header ++ body ≡ header ++ (back ++ after) = sym e ∙ p ∙ ap (λ (t : List ℕ). t ++ after) w.1.1 ∙ append_assoc header back after in
      let le = l.longest back after (append_cancel_left header body (back ++ after) row) (w.0, w.1.2) in
      omega (arith, le, ap (length {A = ℕ}) w.1.1, length-append header back)

-- where the items have no longer prefix that is whole, there is no module
pub headed_none_whole : {V : Type 0} {G : Grammar V} (bytes body : List ℕ) (n : ℕ) → bytes ≡ header ++ body → n < length body → IsLongestPrefix (EncodesSome (Joined G)) body n → (vs : List V) → Headed G bytes vs → ⊥
headed_none_whole bytes body n e lt l vs g =
    let le = (headed_longest bytes body n e l).longest bytes [] (sym (append-nil bytes)) (inr (vs, g)) in
    absurd (omega (arith, le, ap (length {A = ℕ}) e, length-append header body))

-- without the header there is no module, and no prefix that is whole but the empty one
module _ {V : Type 0} (F : Format V) (bytes : List ℕ) (missing : (rest : List ℕ) → bytes ≡ header ++ rest → ⊥) where
  no_module : (vs : List V) → (module_of F).Encodes bytes vs → ⊥
  no_module vs g = missing g.0 g.1

  pub headless : {X : Type 0} {encoding : X → List ℕ} → RewritesTo (module_of F) (IsHeadedPrefix F.Encodes) bytes encoding (Err (errors.Refused 0))
  headless = record {
    given = tt;
    prefix = record { prefix = []; rest = bytes; parts = refl; len_is = refl; whole = inl refl; longest = longest };
    unencoded = no_module;
  } where
    longest : (other after : List ℕ) → bytes ≡ other ++ after → IsHeadedPrefix F.Encodes other → length other ≤ 0
    longest other after p (inl none) = rw none (omega arith)
    longest other after p (inr w) = absurd (missing (w.1.0 ++ after) (p ∙ ap (λ (t : List ℕ). t ++ after) w.1.1 ∙ append_assoc header w.1.0 after))

-- what the code finds of the header: the bytes after it, or that it isn't there
abbrev Stripped : {X : Type 0} → (X → List ℕ) → List ℕ → Option X → Type 0
Stripped now bytes r = MatchOption r (pointwise eqb (take 8 bytes) header ≡ false) (λ x. (pointwise eqb (take 8 bytes) header ≡ true) × (now x ≡ drop 8 bytes) × (length (now x) + 8 ≡ length bytes))

pub header_found : {X : Type 0} (now : X → List ℕ) (bytes : List ℕ) (r : Option X) → Stripped now bytes r → IfSome r (λ x. bytes ≡ header ++ now x)
header_found now bytes None h = tt
header_found now bytes (Some x) h = sym (take-append-drop 8 bytes) ∙ ap (λ (t : List ℕ). t ++ drop 8 bytes) ((bytes_decides (take 8 bytes) header).0 h.0) ∙ ap (λ (t : List ℕ). header ++ t) (sym h.1)

pub header_missing : {X : Type 0} (now : X → List ℕ) (bytes : List ℕ) (r : Option X) → Stripped now bytes r → IfNone r ((rest : List ℕ) → bytes ≡ header ++ rest → ⊥)
header_missing now bytes (Some x) h = tt
header_missing now bytes None h = λ rest e.
    let prefix : take 8 bytes ≡ header = ap (take 8) e ∙ take_at header rest 8 refl in
    let there : pointwise eqb (take 8 bytes) header ≡ true = (bytes_decides (take 8 bytes) header).1 prefix in
    absurd cc

-- ---- a module that is rewritten: its header stays, and then its sections are

-- after the header
pub record AfterHeader (bytes body : List ℕ) (start : Rewriting) : Type 0 where
  pub done : start.done ≡ header
  pub left : start.place.left ≡ body

pub after_header_is : (bytes body : List ℕ) (start : Rewriting) → bytes ≡ header ++ body → {g : GName} → start ≡ skipped 8 (rewriting [] (place true bytes) (rest_of [] g)) → AfterHeader bytes body start
after_header_is bytes body start e is = record {
  done = ap (λ (s : Rewriting). s.done) is ∙ ap (take 8) e ∙ take_at header body 8 refl;
  left = ap (λ (s : Rewriting). s.place.left) is ∙ ap (drop 8) e ∙ drop_at header body 8 refl;
}

pub headed_normal : {V : Type 0} {F : Format V} → IsLawful F → TakesBytes F.Encodes → (bytes body : List ℕ) (start end : Rewriting) → bytes ≡ header ++ body → AfterHeader bytes body start → IsBytes start.place.left → rewriting_after (to_end F) start ≡ Some end → end.place.left ≡ []
    → IsNormalForm (Headed F.Encodes) (λ vs. header ++ flat_map F.bytes vs) bytes end.done
headed_normal {V} {F} r some bytes body start end e h fits rest none =
    let all = joined_done r some start end fits rest none in
    record {
      value = all.values;
      encoded = (body, e, subst (λ (l : List ℕ). Joined F.Encodes l all.values) h.left all.encodes);
      is_minimal = all.written ∙ ap (λ (t : List ℕ). t ++ flat_map F.bytes all.values) h.done;
    }

-- one section isn't whole
pub record HeadedRefused {V : Type 0} (G : Grammar V) (bytes : List ℕ) (at : ℕ) : Type 0 where
  pub prefix : IsLongestPrefix (IsHeadedPrefix G) bytes at
  pub unencoded : (vs : List V) → Headed G bytes vs → ⊥

pub headed_refused : {V : Type 0} {F : Format V} → IsLawful F → TakesBytes F.Encodes → (bytes body : List ℕ) (start : Rewriting) (left : ℕ) → bytes ≡ header ++ body → AfterHeader bytes body start → StopsAt F start.place.left left → HeadedRefused F.Encodes bytes (length bytes - left)
headed_refused {V} {F} r some bytes body start left e h stop =
    let stops : StopsAt F body left = subst (λ (l : List ℕ). StopsAt F l left) h.left stop in
    let within = stopped_within F body left stops in
    let longest = joined_stopped r some body left stops in
    let at : 8 + (length body - left) ≡ length bytes - left = omega (arith, within, ap (length {A = ℕ}) e, length-append header body, stops.len, ap (length {A = ℕ}) stops.parts, length-append stops.prefix stops.rest) in
    record {
      prefix = subst (IsLongestPrefix (IsHeadedPrefix F.Encodes) bytes) at (headed_longest bytes body (length body - left) e longest);
      unencoded = headed_none_whole bytes body (length body - left) e within longest;
    }

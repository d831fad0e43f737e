-- The laws of functions and code sections that are being built.
use Rattle.std.proofs.Common.{◌≡◌, ℕ, ◌+◌, ◌^◌, ◌≤◌, ◌⊎◌, List, [], ◌∷◌, ◌++◌, length, Option, Result, Ok, Err, OnOk, OnErr, IfErr, append_assoc, refl, sym, ap, ◌∙◌, subst, lit≤}
use Rattle.std.specs.Prelude.{IsErrOf}
use Rattle.std.specs.List.{All, AllByRecursion, Any, flat_map}
use Rattle.std.proofs.lemmas.Grind.{flat_map-append}
use Rattle.std.proofs.lemmas.List.{append-nil}
use Rattle.wasm_types.specs.declared.types.value.ValType.{ValType}
use Rattle.wasm_codec.specs.declared.encode.EncodeError.{EncodeError}
use Rattle.wasm_codec.specs.declared.encode.EncodeError.TheVariants.{TooLong}
use Rattle.wasm_codec.specs.Encoding.{byte_list_bytes, IsCount, IsRefusal, IsMinimal, OnlyTooLong}
use Rattle.wasm_codec.specs.formats.Numbers.{EncodesU32}
use Rattle.wasm_codec.specs.Leb128.{unsigned_leb128}
use Rattle.wasm_types.specs.formats.Types.{val_type}
use Rattle.wasm_lists.specs.Iterators.{AppendsItems}
use Rattle.wasm_codec.specs.formats.Combinators.{items}
use Rattle.wasm_instructions.specs.Appending.{CountedCall}
use Rattle.wasm_instructions.specs.formats.Instructions.{Instruction, Instructions, MinimalInstructions, instruction, instructions_bytes}
use Rattle.wasm_instructions.proofs.InstructionFormatLaws.{are_minimal}
use Rattle.wasm_code.specs.declared.code.CodeBody.{CodeBody}
use Rattle.wasm_code.specs.CodeCounts.{CountedBody}
use Rattle.wasm_code.specs.formats.CodeBodies.{local_group, code_body, code_section_body}
use Rattle.wasm_code.proofs.CodeBodyLaws.{Lawful-code_body, Lawful-code-section-body}
use Rattle.wasm_code.proofs.CodeBodyWriting.{calls_counted, calls_in_range, locals_in_range, in_range_by_parts}
use Rattle.wasm_code.specs.formats.Sections.{typed_section_of, code_bodies, code_section_id}
use Rattle.wasm_code.specs.Modules.{IsTypedSection}
use Rattle.wasm_encoder.specs.EncodedLists.{Adds, AddsAll, EncodesSection, EncodedItems, CountedSection, IsFull, IsMemoryOrTooLong, IsRefusalOfEach, IsRefusalOfOne, IsUncounted, OfItems, body_bytes}
use Rattle.wasm_encoder.specs.CodeSections.{FunctionStandsFor, GainsBodies, GainsFunction, GoesOnWith, GoesOnWithBytes, StandsForBodies, UncountedBody, body_of, followed}
use Rattle.wasm_sections.specs.formats.ModuleSectionParts.{code}
use Rattle.wasm_sections.proofs.ModuleSectionLaws.{code_kind, is_body_of}
use Rattle.wasm_sections.proofs.ListSectionLaws.{section_encodes as encodes_section}
use Rattle.wasm_encoder.proofs.RefusalLaws.{bodies_refused, function_refused, if_refused}
use Rattle.wasm_lists.proofs.EncodedListLaws.{stands_none, stands_one_more, gains_each, body_is, values_in_range, all_in_range}

-- ---- functions

-- a function of locals alone
pub locals_stand : {S : Type 0} (gives : S → Option (ℕ × ValType) → S → Type 0) (Can : ℕ × ValType → Type 0) (locals : S) (old new : List ℕ) → old ≡ [] → AppendsItems local_group.bytes Can (λ (p : ℕ × ValType). IsMinimal EncodesU32 unsigned_leb128 p.0 × IsMinimal val_type.Encodes val_type.bytes p.1) gives locals old new → OfItems gives locals (λ groups. FunctionStandsFor new (body_of groups []))
locals_stand gives Can locals old new none given =
    (given.0, given.1, record { bytes = given.2 ∙ ap (λ (t : List ℕ). t ++ (items local_group).bytes given.0) none ∙ sym (append-nil ((items local_group).bytes given.0)); locals = given.3.0; calls = tt; locals_in_range = locals_in_range given.0 given.4; calls_in_range = tt })

all_more : (P : Instruction → Type 0) (calls more : List Instruction) → AllByRecursion P calls → AllByRecursion P more → AllByRecursion P (calls ++ more)
all_more P [] more first second = second
all_more P (call ∷ calls) more first second = (first.0, all_more P calls more first.1 second)

-- some instructions more
function_more : (old new : List ℕ) (more : List Instruction) (body : CodeBody) → new ≡ old ++ instructions_bytes more → Instructions (instructions_bytes more) more → FunctionStandsFor old body → FunctionStandsFor new (followed body more)
function_more old new more body is encoded s = record {
  bytes = is ∙ ap (λ (t : List ℕ). t ++ instructions_bytes more) s.bytes ∙ append_assoc ((items local_group).bytes body.locals) (instructions_bytes body.calls) (instructions_bytes more)
      ∙ ap (λ (t : List ℕ). (items local_group).bytes body.locals ++ t) (sym (flat_map-append instruction.bytes body.calls more));
  locals = s.locals;
  calls = all_more CountedCall body.calls more s.calls (calls_counted more encoded);
  locals_in_range = s.locals_in_range;
  calls_in_range = all_more instruction.InRange body.calls more s.calls_in_range (calls_in_range more encoded);
}

goes_on : {T E : Type 0} (r : Result T E) (old new : List ℕ) (more : List Instruction) → OnOk r (new ≡ old ++ instructions_bytes more) → OnOk r (Instructions (instructions_bytes more) more) → OnOk r (GoesOnWith old more new)
goes_on (Ok x) old new more is encoded = record { bytes = is; stands = λ body s. function_more old new more body is encoded s }
goes_on (Err e) old new more is encoded = tt

pub appends_calls : (was old new : List ℕ) (more : List Instruction) (Refused : EncodeError → Type 0) (r : Result (Unit {0}) EncodeError) → was ≡ old
    → OnOk r (new ≡ was ++ instructions_bytes more) → OnOk r (Instructions (instructions_bytes more) more) → OnErr r (new ≡ was) → IfErr r Refused → Adds GoesOnWith old more new Refused r
appends_calls was old new more Refused r same is encoded unchanged refused =
    subst (λ (function : List ℕ). Adds GoesOnWith function more new Refused r) same (record { gains = goes_on r was new more is encoded; same = unchanged; refused = refused })

-- some bytes more
goes_on_with_bytes : {T E : Type 0} (r : Result T E) (old new more : List ℕ) → OnOk r (new ≡ old ++ more) → OnOk r (GoesOnWithBytes old more new)
goes_on_with_bytes (Ok x) old new more is = record { bytes = is; stands = stands } where
  stands : (calls : List Instruction) → MinimalInstructions more calls → (body : CodeBody) → FunctionStandsFor old body → FunctionStandsFor new (followed body calls)
  stands calls minimal body s =
      let both = (are_minimal more calls).0 minimal in
      function_more old new calls body (is ∙ ap (λ (t : List ℕ). old ++ t) both.1) (subst (λ (t : List ℕ). Instructions t calls) both.1 both.0) s
goes_on_with_bytes (Err e) old new more is = tt

pub appends_bytes : (was old new more : List ℕ) (Refused : EncodeError → Type 0) (r : Result (Unit {0}) EncodeError) → was ≡ old → OnOk r (new ≡ was ++ more) → OnErr r (new ≡ was) → IfErr r Refused → Adds GoesOnWithBytes old more new Refused r
appends_bytes was old new more Refused r same is unchanged refused =
    subst (λ (function : List ℕ). Adds GoesOnWithBytes function more new Refused r) same (record { gains = goes_on_with_bytes r was new more is; same = unchanged; refused = refused })

-- ---- sections

pub stands_for_none : (section : EncodedItems) → section.count ≡ 0 → section.bytes ≡ [] → StandsForBodies section []
stands_for_none section count bytes = stands_none code_body CountedBody section count bytes

function_is_body : (function : List ℕ) (body : CodeBody) → FunctionStandsFor function body → byte_list_bytes function ≡ code_body.bytes body
unfolding code_body
function_is_body function body s = ap byte_list_bytes s.bytes

body_counted : (function : List ℕ) (body : CodeBody) → FunctionStandsFor function body → IsCount (length function) → CountedBody body
body_counted function body s few = (s.locals, s.calls, subst (λ (t : List ℕ). IsCount (length t)) s.bytes few)

function_in_range : (function : List ℕ) (body : CodeBody) → FunctionStandsFor function body → IsCount (length function) → code_body.InRange body
function_in_range function body s few = in_range_by_parts body (body_counted function body s few) s.locals_in_range s.calls_in_range

function_stands : (old new : EncodedItems) (function : List ℕ) (before : List CodeBody) (body : CodeBody) → new.count ≡ old.count + 1 → new.bytes ≡ old.bytes ++ byte_list_bytes function → IsCount (length function) → StandsForBodies old before → FunctionStandsFor function body → StandsForBodies new (before ++ body ∷ [])
function_stands old new function before body count bytes few s f =
    stands_one_more code_body CountedBody old new before body s count (bytes ∙ ap (λ (t : List ℕ). old.bytes ++ t) (function_is_body function body f)) (body_counted function body f few) (function_in_range function body f few)

gains_function : {T E : Type 0} (r : Result T E) (old new : EncodedItems) (function : List ℕ) → OnOk r (new.count ≡ old.count + 1) → OnOk r (new.bytes ≡ old.bytes ++ byte_list_bytes function) → OnOk r (IsCount (length function)) → OnOk r (GainsFunction old function new)
gains_function (Ok x) old new function count bytes few = record { count = count; bytes = bytes; stands = λ before body s f. function_stands old new function before body count bytes few s f }
gains_function (Err e) old new function count bytes few = tt

gains_bodies : {T E : Type 0} (r : Result T E) (old new : EncodedItems) (more : List CodeBody) → OnOk r (new.count ≡ old.count + length more) → OnOk r (new.bytes ≡ old.bytes ++ flat_map code_body.bytes more) → OnOk r (All CountedBody more) → OnOk r (All (IsMinimal code_body.Encodes code_body.bytes) more) → OnOk r (GainsBodies old more new)
gains_bodies (Ok x) old new more count bytes can written = gains_each code_body CountedBody old new more count bytes can (all_in_range code_body Lawful-code_body more written)
gains_bodies (Err e) old new more count bytes can written = tt

pub adds_function : (was old new : EncodedItems) (function : List ℕ) (r : Result (Unit {0}) EncodeError) → was ≡ old → OnOk r (new.count ≡ was.count + 1) → OnOk r (new.bytes ≡ was.bytes ++ byte_list_bytes function) → OnOk r (IsCount (length function)) → OnErr r (new ≡ was)
    → IfErr r (IsRefusalOfOne (λ (f : List ℕ). IsCount (length f)) OnlyTooLong was function) → Adds GainsFunction old function new (IsMemoryOrTooLong (IsFull old ⊎ IsUncounted (length function))) r
adds_function was old new function r same count bytes few unchanged refused =
    subst (λ (list : EncodedItems). Adds GainsFunction list function new (IsMemoryOrTooLong (IsFull list ⊎ IsUncounted (length function))) r) same (record {
      gains = gains_function r was new function count bytes few;
      same = unchanged;
      refused = if_refused (IsRefusalOfOne (λ (f : List ℕ). IsCount (length f)) OnlyTooLong was function) (IsMemoryOrTooLong (IsFull was ⊎ IsUncounted (length function))) r (function_refused was function) refused;
    })

pub adds_bodies : (was old new : EncodedItems) (more : List CodeBody) (r : Result (Unit {0}) EncodeError) → was ≡ old → OnOk r (new.count ≡ was.count + length more) → OnOk r (new.bytes ≡ was.bytes ++ flat_map code_body.bytes more) → OnOk r (All CountedBody more)
    → OnOk r (All (IsMinimal code_body.Encodes code_body.bytes) more) → OnErr r (new ≡ was) → IfErr r (IsRefusalOfEach CountedBody OnlyTooLong was more) → (2 ^ 32 ≤ was.count + length more → IsErrOf r TooLong) → AddsAll GainsBodies UncountedBody old more new r
adds_bodies was old new more r same count bytes can written unchanged refused too_many =
    subst (λ (list : EncodedItems). AddsAll GainsBodies UncountedBody list more new r) same (record {
      gains = gains_bodies r was new more count bytes can written;
      same = unchanged;
      refused = if_refused (IsRefusalOfEach CountedBody OnlyTooLong was more) (IsMemoryOrTooLong (IsUncounted (was.count + length more) ⊎ Any UncountedBody more)) r (bodies_refused was more) refused;
      too_many = too_many;
    })

-- ---- the bytes that a section of bodies writes

section_is_body : (section : EncodedItems) (bodies : List CodeBody) → StandsForBodies section bodies → body_bytes section ≡ code_section_body.bytes bodies
unfolding code_section_body
section_is_body section bodies s = body_is code_body CountedBody section bodies s

pub one_encoding : (section other : EncodedItems) (bodies : List CodeBody) → StandsForBodies section bodies → StandsForBodies other bodies → body_bytes other ≡ body_bytes section
one_encoding section other bodies s o = section_is_body other bodies o ∙ sym (section_is_body section bodies s)

bodies_in_range : (section : EncodedItems) (bodies : List CodeBody) → IsCount section.count → StandsForBodies section bodies → code_section_body.InRange bodies
unfolding code_section_body
bodies_in_range section bodies few s = values_in_range code_body CountedBody section bodies few s

body_encodes : (section : EncodedItems) (bodies : List CodeBody) → IsCount section.count → StandsForBodies section bodies → code_section_body.Encodes (body_bytes section) bodies
body_encodes section bodies few s = rw (section_is_body section bodies s) (Lawful-code-section-body.minimal.encodes bodies (bodies_in_range section bodies few s))

pub section_encodes : (was section : EncodedItems) (old new : List ℕ) (r : Result (Unit {0}) EncodeError) → was ≡ section → IsCount was.count → OnOk r (new ≡ old ++ byte_list_bytes (body_bytes was)) → OnOk r (CountedSection was)
    → IfErr r (IsRefusal CountedSection OnlyTooLong was) → OnErr r (new ≡ old) → EncodesSection code_section_body (StandsForBodies section) 10 code section old new r
unfolding code_section_body
section_encodes was section old new r same few ok can refused err =
    subst (λ (list : EncodedItems). EncodesSection code_section_body (StandsForBodies list) 10 code list old new r) same
    (encodes_section code_section_body (StandsForBodies was) 10 code (is_body_of code_kind) was (section_is_body was) (λ bodies s. body_encodes was bodies few s) Lawful-code-section-body.minimal.least old new r ok can refused err)

pub is_decoded : {T E : Type 0} (r : Result T E) (section : EncodedItems) (bodies : List CodeBody) → IsCount section.count → OnOk r (CountedSection section) → StandsForBodies section bodies → OnOk r (IsTypedSection (typed_section_of (code_section_id, code_bodies bodies)))
is_decoded (Ok x) section bodies few counted s = record {
  content = (bodies_in_range section bodies few s, refl);
  section = record { id = lit≤ tt; body = subst (λ (t : List ℕ). IsCount (length t)) (section_is_body section bodies s) counted };
}
is_decoded (Err e) section bodies few counted s = tt

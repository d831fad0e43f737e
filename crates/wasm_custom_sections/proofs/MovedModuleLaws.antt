-- The laws of modules whose branch hints move with their instructions.
use Rattle.std.proofs.Common.{◌≡◌, ◌∙◌, ℕ, zero, suc, ◌+◌, ◌<◌, Bool, true, false, inl, inr, List, [], ◌∷◌, ◌++◌, length, take, get_or, Option, Some, None, Result, Ok, Err, IfOk, IfErr, OnOk, refl, sym, ap, subst, lit≤, arith}
use Rattle.std.specs.List.{AllByRecursion}
use Rattle.std.specs.Prelude.{codes, IfSome, IsErrAnd, is_some, slice_index_or}
use Rattle.std.specs.declared.alloc.AllocError.{AllocError}
use Rattle.std.proofs.lemmas.List.{append-nil, flat_map_more, map-append, take_more}
use Rattle.wasm_codec.specs.Encoding.{IsCount, IsListRefusal, IsMinimal, IsRefusal, OnlyTooLong, byte_list_bytes}
use Rattle.wasm_codec.specs.Lawful.{IsLawfulBody}
use Rattle.wasm_codec.specs.Outcomes.{EncodesSome}
use Rattle.wasm_codec.specs.declared.encode.EncodeError.{EncodeError}
use Rattle.wasm_codec.specs.declared.encode.EncodeError.TheVariants.{Memory}
use Rattle.wasm_codec.specs.formats.Bodies.{byte_list}
use Rattle.wasm_codec.specs.formats.Combinators.{items}
use Rattle.wasm_codec.proofs.BodyLaws.{Lawful-body, Lawful-byte-list, encodes_one}
use Rattle.wasm_codec.proofs.FormatLaws.{Lawful-items}
use Rattle.wasm_codec.proofs.Laws.{some_is}
use Rattle.wasm_code.specs.declared.section.RawSection.{RawSection}
use Rattle.wasm_code.specs.formats.Modules.{raw_module, raw_section}
use Rattle.wasm_code.specs.formats.Sections.{SectionParts, all_parts_of, code_section_id, first_body_of, header, parts_of, section_of}
use Rattle.wasm_code.proofs.ModuleFormatLaws.{Lawful-raw-module}
use Rattle.wasm_sections.specs.SectionBytes.{IsSectionAfter}
use Rattle.wasm_sections.specs.formats.Entries.{import_entry}
use Rattle.wasm_sections.specs.formats.EntryParts.{CustomParts, ImportParts}
use Rattle.wasm_sections.specs.formats.ModuleSectionParts.{custom}
use Rattle.wasm_sections.specs.formats.ModuleSections.{IsMinimalSection, KeepsMinimal, MinimalWholeModule}
use Rattle.wasm_sections.specs.formats.Sections.{custom_body}
use Rattle.wasm_sections.proofs.CustomLaws.{custom_is_lawful}
use Rattle.wasm_sections.proofs.EntryLaws.{import_is_lawful}
use Rattle.wasm_sections.proofs.RawSections.{raw_sections, whole_again}
use Rattle.wasm_custom_sections.specs.MovedHints.{AppendsMoved, CantMove, HasHintBytes, HasHintSection, ImportsFunctions, IsCodeOf, IsHintSection, IsMovedSection, MovesContents, MovesHints, MovesInOneWay, MovesSoFar, function_imports, import_section_id}
use Rattle.wasm_custom_sections.specs.MovedFunctions.{MovesFunction}
use Rattle.wasm_custom_sections.specs.MovedOffsets.{Each, none}
use Rattle.wasm_custom_sections.specs.NamedSections.{CountedNamed, named}
use Rattle.wasm_custom_sections.specs.declared.branch_hints.FunctionHints.{FunctionHints}
use Rattle.wasm_custom_sections.specs.declared.moved_hints.HintedCode.{HintedCode}
use Rattle.wasm_custom_sections.specs.formats.BranchHints.{function_hints}
use Rattle.wasm_custom_sections.proofs.HintLaws.{hints_are_lawful}
use Rattle.wasm_custom_sections.proofs.MovedFunctionLaws.{function_one}
use Rattle.wasm_custom_sections.proofs.MovedOffsetLaws.{each_end, each_fits, each_length, each_one, first_pair}

-- ---- one section

pub section_stays : (imported : ℕ) (bodies : List (List ℕ)) (s : SectionParts) (old new : List ℕ) → (IsHintSection s → ⊥) → new ≡ old ++ s.id ∷ byte_list_bytes s.body → AppendsMoved imported bodies s old new
unfolding raw_section
section_stays imported bodies s old new other written = record { moved = s; moves = inr (refl, other); in_range = λ fits. fits; written = written; minimal = λ minimal. minimal }

section_moves : (imported : ℕ) (bodies : List (List ℕ)) (s : SectionParts) (contents moved old new : List ℕ) → HasHintBytes s contents → MovesContents imported bodies contents moved → new ≡ old ++ 0 ∷ byte_list_bytes (custom_body.bytes (named (codes "metadata.code.branch_hint") moved))
    → IsMinimal custom_body.Encodes custom_body.bytes (named (codes "metadata.code.branch_hint") moved) → CountedNamed (codes "metadata.code.branch_hint") moved → IsSectionAfter 0 (byte_list_bytes (custom_body.bytes (named (codes "metadata.code.branch_hint") moved))) (custom (named (codes "metadata.code.branch_hint") moved)) → AppendsMoved imported bodies s old new
unfolding raw_section
section_moves imported bodies s contents moved old new has moves written least counted whole =
    let text = codes "metadata.code.branch_hint" in
    let section : SectionParts = record { id = 0; body = custom_body.bytes (named text moved) } in
    record {
      moved = section;
      moves = inl (record {
        has = record { is_custom = has.0; custom = named text contents; holds = has.1; value = moves.functions; contents = (refl, moves.encodes) };
        functions = moves.others;
        moves = moves.moves;
        is = ap (λ (b : List ℕ). record { id = 0; body = custom_body.bytes (named text b) }) moves.written;
      });
      in_range = λ fits. ((lit≤ tt, (custom_is_lawful.are_bytes section.body (named text moved) least.encodes, counted.1)), refl);
      written = written;
      minimal = λ minimal. (custom (named text moved), whole);
    }

on_three : {X E : Type 0} {A B C P : Type 0} (r : Result X E) → (A → B → C → P) → OnOk r A → OnOk r B → OnOk r C → OnOk r P
on_three (Ok x) all a b c = all a b c
on_three (Err e) all a b c = tt

-- the call went well
went_well : {E : Type 0} (outcome : Result (Unit {0}) E) (P : Type 0) → outcome ≡ Ok tt → OnOk outcome P → P
went_well (Ok x) P is p = p
went_well (Err e) P is p = absurd cc

-- a call that is said to be done went well
if_done : {E : Type 0} (told : Result Bool AllocError) (outcome : Result (Unit {0}) E) (P : Type 0) → IfOk told (λ done. done ≡ true → outcome ≡ Ok tt) → OnOk outcome P → IfOk told (λ done. done ≡ true → P)
if_done (Ok b) outcome P is ok = λ e. went_well outcome P (is e) ok
if_done (Err e) outcome P is ok = tt

pub moves_if_done : (told : Result Bool AllocError) (outcome : Result (Unit {0}) EncodeError) (imported : ℕ) (bodies : List (List ℕ)) (s : SectionParts) (contents moved old new : List ℕ) → IfOk told (λ done. done ≡ true → outcome ≡ Ok tt) → HasHintBytes s contents → MovesContents imported bodies contents moved
    → OnOk outcome (new ≡ old ++ 0 ∷ byte_list_bytes (custom_body.bytes (named (codes "metadata.code.branch_hint") moved))) → OnOk outcome (CountedNamed (codes "metadata.code.branch_hint") moved)
    → OnOk outcome (IsMinimal custom_body.Encodes custom_body.bytes (named (codes "metadata.code.branch_hint") moved) × IsSectionAfter 0 (byte_list_bytes (custom_body.bytes (named (codes "metadata.code.branch_hint") moved))) (custom (named (codes "metadata.code.branch_hint") moved))) → IfOk told (λ done. done ≡ true → AppendsMoved imported bodies s old new)
moves_if_done told outcome imported bodies s contents moved old new is has moves ok can written =
    if_done told outcome (AppendsMoved imported bodies s old new) is (on_three outcome (λ wrote counted whole. section_moves imported bodies s contents moved old new has moves wrote whole.0 counted whole.1) ok can written)

-- ---- one section that can't be moved

-- a call that failed, but not for lack of memory, was given what can't be written
refused : {X : Type 0} (outcome : Result (Unit {0}) EncodeError) (Can : X → Type 0) (refuses : X → EncodeError → Type 0) (x : X) → IsErrAnd outcome (λ e. e ≡ Memory → ⊥) → IfErr outcome (IsRefusal Can refuses x) → Can x → ⊥
refused (Ok done) Can refuses x failed why can = failed
refused (Err e) Can refuses x failed (inl memory) can = failed memory
refused (Err e) Can refuses x failed (inr refusal) can = refusal.0 can

if_not_done : (told : Result Bool AllocError) (outcome : Result (Unit {0}) EncodeError) (P : Type 0) → IfOk told (λ done. done ≡ false → IsErrAnd outcome (λ e. e ≡ Memory → ⊥)) → (IsErrAnd outcome (λ e. e ≡ Memory → ⊥) → P) → IfOk told (λ done. done ≡ false → P)
if_not_done (Ok done) outcome P is make = λ e. make (is e)
if_not_done (Err e) outcome P is make = tt

counted : (s : SectionParts) → raw_section.InRange s → IsCount (length s.body)
unfolding raw_section
counted s fits = fits.0.1.1

pub cant_stay : (told : Result Bool AllocError) (outcome : Result (Unit {0}) EncodeError) (section : RawSection) (imported : ℕ) (bodies : List (List ℕ)) → IfOk told (λ done. done ≡ false → IsErrAnd outcome (λ e. e ≡ Memory → ⊥)) → (IsHintSection (parts_of section) → ⊥)
    → IfErr outcome (IsRefusal (λ (s : RawSection). IsCount (length s.body.now)) OnlyTooLong section) → IfOk told (λ done. done ≡ false → CantMove imported bodies (parts_of section))
cant_stay told outcome section imported bodies is other why = if_not_done told outcome (CantMove imported bodies (parts_of section)) is missing where
  missing : IsErrAnd outcome (λ e. e ≡ Memory → ⊥) → CantMove imported bodies (parts_of section)
  missing failed moved fits (inl m) = other (record { is_custom = m.has.is_custom; custom = m.has.custom; holds = m.has.holds; named = m.has.contents.0 })
  missing failed moved fits (inr same) = refused outcome (λ (s : RawSection). IsCount (length s.body.now)) OnlyTooLong section failed why (subst (λ (s : SectionParts). IsCount (length s.body)) same.0 (counted moved fits))

-- the contents of a section of hints, moved
record HasMoved (imported : ℕ) (bodies : List (List ℕ)) (contents : List ℕ) (moved : SectionParts) : Type 0 where
  pub bytes : List ℕ
  pub moves : MovesContents imported bodies contents bytes
  pub is : moved ≡ record { id = 0; body = custom_body.bytes (named (codes "metadata.code.branch_hint") bytes) }

has_moved : (imported : ℕ) (bodies : List (List ℕ)) (s moved : SectionParts) (contents : List ℕ) → HasHintBytes s contents → IsMovedSection imported bodies s moved → HasMoved imported bodies contents moved
has_moved imported bodies s moved contents has (inl m) =
    let text = codes "metadata.code.branch_hint" in
    let same : m.has.custom ≡ named text contents = encodes_one custom_is_lawful s.body m.has.custom (named text contents) m.has.holds has.1 in
    let encodes : (items function_hints).Encodes contents m.has.value = subst (λ (c : CustomParts). (items function_hints).Encodes c.data_bytes m.has.value) same m.has.contents.1 in
    record {
      bytes = (items function_hints).bytes m.functions;
      moves = record { functions = m.has.value; encodes = encodes; others = m.functions; moves = m.moves; written = refl };
      is = m.is;
    }
has_moved imported bodies s moved contents has (inr same) = absurd (same.1 (record { is_custom = has.0; custom = named (codes "metadata.code.branch_hint") contents; holds = has.1; named = refl }))

functions_are_lawful : IsLawfulBody (items function_hints)
functions_are_lawful = Lawful-body (Lawful-items hints_are_lawful)

contents_one : (imported : ℕ) (bodies : List (List ℕ)) (contents moved other : List ℕ) → MovesContents imported bodies contents moved → MovesContents imported bodies contents other → moved ≡ other
contents_one imported bodies contents moved other a b =
    let same : b.functions ≡ a.functions = encodes_one functions_are_lawful contents b.functions a.functions b.encodes a.encodes in
    let others : a.others ≡ b.others = each_one (function_one imported bodies) a.functions a.others b.others a.moves (subst (λ (l : List FunctionHints). Each (MovesFunction imported bodies) l b.others) same b.moves) in
    a.written ∙ ap (items function_hints).bytes others ∙ sym b.written

pub cant_move : (imported : ℕ) (bodies : List (List ℕ)) (s : SectionParts) (contents : List ℕ) → HasHintBytes s contents → ((moved : List ℕ) → MovesContents imported bodies contents moved → ⊥) → CantMove imported bodies s
cant_move imported bodies s contents has missing moved fits m = let h = has_moved imported bodies s moved contents has m in missing h.bytes h.moves

pub cant_fit : (told : Result Bool AllocError) (outcome : Result (Unit {0}) EncodeError) (imported : ℕ) (bodies : List (List ℕ)) (s : SectionParts) (contents moved : List ℕ) → IfOk told (λ done. done ≡ false → IsErrAnd outcome (λ e. e ≡ Memory → ⊥))
    → HasHintBytes s contents → MovesContents imported bodies contents moved → IfErr outcome (IsRefusal (CountedNamed (codes "metadata.code.branch_hint")) OnlyTooLong moved) → IfOk told (λ done. done ≡ false → CantMove imported bodies s)
cant_fit told outcome imported bodies s contents moved is has moves why = if_not_done told outcome (CantMove imported bodies s) is missing where
  missing : IsErrAnd outcome (λ e. e ≡ Memory → ⊥) → CantMove imported bodies s
  missing failed other fits m =
      let text = codes "metadata.code.branch_hint" in
      let h = has_moved imported bodies s other contents has m in
      let same : other ≡ section_of (0, custom_body.bytes (named text moved)) = h.is ∙ ap (λ (b : List ℕ). section_of (0, custom_body.bytes (named text b))) (contents_one imported bodies contents h.bytes moved h.moves moves) in
      refused outcome (CountedNamed text) OnlyTooLong moved failed why (lit≤ tt, subst (λ (p : SectionParts). IsCount (length p.body)) same (counted other fits))

-- ---- contents that can't be moved

pub no_contents : (imported : ℕ) (bodies : List (List ℕ)) (contents : List ℕ) → ((functions : List FunctionHints) → (items function_hints).Encodes contents functions → ⊥) → (moved : List ℕ) → MovesContents imported bodies contents moved → ⊥
no_contents imported bodies contents missing moved m = missing m.functions m.encodes

pub no_functions : (imported : ℕ) (bodies : List (List ℕ)) (contents : List ℕ) (functions : List FunctionHints) → (items function_hints).Encodes contents functions → ((moved : List FunctionHints) → Each (MovesFunction imported bodies) functions moved → ⊥)
    → (moved : List ℕ) → MovesContents imported bodies contents moved → ⊥
no_functions imported bodies contents functions encodes missing moved m =
    let same : m.functions ≡ functions = encodes_one functions_are_lawful contents m.functions functions m.encodes encodes in
    missing m.others (subst (λ (l : List FunctionHints). Each (MovesFunction imported bodies) l m.others) same m.moves)

few_hints : (f : FunctionHints) → function_hints.InRange f → IsCount (length f.hints)
unfolding function_hints
few_hints f fits = fits.0.1.0

at_index : {A : Type 0} (P : A → Type 0) (xs : List A) (k : ℕ) (x : A) → AllByRecursion P xs → k < length xs → P (slice_index_or xs k x)
at_index P [] k x all lt = absurd (omega (arith, lt))
at_index P (y ∷ xs) zero x all lt = all.0
at_index P (y ∷ xs) (suc k) x all lt = at_index P xs k x all.1 (omega (arith, lt))

-- moved hints are as many as they were, so they can be written
can_write : {P : Type 0} (imported : ℕ) (bodies : List (List ℕ)) (contents : List ℕ) (functions moved : List FunctionHints) (e : EncodeError) → (items function_hints).Encodes contents functions → Each (MovesFunction imported bodies) functions moved → (e ≡ Memory → ⊥)
    → IsListRefusal (λ (f : FunctionHints). IsCount (length f.hints)) OnlyTooLong moved e → P
can_write imported bodies contents functions moved e encodes moves other (inl memory) = absurd (other memory)
can_write imported bodies contents functions moved e encodes moves other (inr (inl long)) =
    let few = (functions_are_lawful.in_range contents functions encodes).0 in
    absurd (omega (arith, few, long.1, each_length moves))
can_write imported bodies contents functions moved e encodes moves other (inr (inr any)) =
    let fits = (functions_are_lawful.in_range contents functions encodes).1 in
    let all : AllByRecursion (λ (f : FunctionHints). IsCount (length f.hints)) moved =
    each_fits function_hints.InRange (λ (f : FunctionHints). IsCount (length f.hints)) (λ x y fit m. subst IsCount (sym (each_length m.hints)) (few_hints x fit)) fits moves in
    let here : IsCount (length (slice_index_or moved any.0 any.1).hints) = at_index (λ (f : FunctionHints). IsCount (length f.hints)) moved any.0 any.1 all any.2 in
    absurd (any.4.0 (subst (λ (f : FunctionHints). IsCount (length f.hints)) any.3 here))

pub all_written : {P : Type 0} (outcome : Result (Unit {0}) EncodeError) (imported : ℕ) (bodies : List (List ℕ)) (contents : List ℕ) (functions moved : List FunctionHints) → (items function_hints).Encodes contents functions → Each (MovesFunction imported bodies) functions moved → IsErrAnd outcome (λ e. e ≡ Memory → ⊥)
    → IfErr outcome (IsListRefusal (λ (f : FunctionHints). IsCount (length f.hints)) OnlyTooLong moved) → P
all_written (Ok done) imported bodies contents functions moved encodes moves failed why = absurd failed
all_written (Err e) imported bodies contents functions moved encodes moves failed why = can_write imported bodies contents functions moved e encodes moves failed why

-- ---- all sections

pub moving_none : (imported : ℕ) (bodies : List (List ℕ)) (bytes : List ℕ) → bytes ≡ header → MovesSoFar imported bodies [] bytes
moving_none imported bodies bytes is = record { moved = []; moves = none; in_range = λ fits. tt; minimal = λ minimal. tt; written = is ∙ sym (append-nil header) }

all_end : (P : SectionParts → Type 0) (sections : List SectionParts) (s : SectionParts) → AllByRecursion P sections → P s → AllByRecursion P (sections ++ s ∷ [])
all_end P [] s all p = (p, tt)
all_end P (t ∷ sections) s all p = (all.0, all_end P sections s all.1 p)

all_front : (P : SectionParts → Type 0) (sections : List SectionParts) (s : SectionParts) → AllByRecursion P (sections ++ s ∷ []) → AllByRecursion P sections × P s
all_front P [] s all = (tt, all.0)
all_front P (t ∷ sections) s all = let rest = all_front P sections s all.1 in ((all.0, rest.0), rest.1)

moving_more : (imported : ℕ) (bodies : List (List ℕ)) (sections : List SectionParts) (s : SectionParts) (old new : List ℕ) → MovesSoFar imported bodies sections old → AppendsMoved imported bodies s old new → MovesSoFar imported bodies (sections ++ s ∷ []) new
moving_more imported bodies sections s old new so_far one = record {
  moved = so_far.moved ++ one.moved ∷ [];
  moves = each_end s one.moved so_far.moves one.moves;
  in_range = λ fits. let both = all_front raw_section.InRange sections s fits in all_end raw_section.InRange so_far.moved one.moved (so_far.in_range both.0) (one.in_range both.1);
  minimal = λ minimal. let both = all_front IsMinimalSection sections s minimal in all_end IsMinimalSection so_far.moved one.moved (so_far.minimal both.0) (one.minimal both.1);
  written = one.written ∙ ap (λ (t : List ℕ). t ++ raw_section.bytes one.moved) so_far.written ∙ flat_map_more raw_section.bytes header so_far.moved one.moved;
}

parts_more : (sections : List RawSection) (i : ℕ) (d : RawSection) → i < length sections → all_parts_of (take (i + 1) sections) ≡ all_parts_of (take i sections) ++ parts_of (get_or sections i d) ∷ []
parts_more sections i d lt = ap all_parts_of (take_more sections i d lt) ∙ map-append parts_of (take i sections) (get_or sections i d ∷ [])

-- one more, as a loop over a slice finds it
pub moving_on : (imported : ℕ) (bodies : List (List ℕ)) (sections : List RawSection) (i : ℕ) (d : RawSection) (old new : List ℕ) → i < length sections → MovesSoFar imported bodies (all_parts_of (take i sections)) old → AppendsMoved imported bodies (parts_of (get_or sections i d)) old new
    → MovesSoFar imported bodies (all_parts_of (take (i + 1) sections)) new
moving_on imported bodies sections i d old new lt so_far one = subst (λ (l : List SectionParts). MovesSoFar imported bodies l new) (sym (parts_more sections i d lt)) (moving_more imported bodies (all_parts_of (take i sections)) (parts_of (get_or sections i d)) old new so_far one)

pub hints_moved : (code : HintedCode) (bodies : List (List ℕ)) (sections : List SectionParts) (bytes result : List ℕ) → (items byte_list).Encodes code.code.items bodies → raw_module.Encodes bytes sections → MovesSoFar code.imported_functions bodies sections result → MovesHints code bytes result
hints_moved code bodies sections bytes result are encodes w =
    let fits = w.in_range (Lawful-raw-module.in_range bytes sections encodes) in
    record {
      bodies = bodies;
      are_bodies = are;
      sections = sections;
      encodes = encodes;
      moved = w.moved;
      moves = w.moves;
      is_module = subst (λ (b : List ℕ). raw_module.Encodes b w.moved) (sym w.written) (Lawful-raw-module.minimal.encodes w.moved fits);
      written = w.written;
    }

pub stays_minimal : (imported : ℕ) (bodies : List (List ℕ)) (sections : List SectionParts) (bytes result : List ℕ) → raw_module.Encodes bytes sections → MovesSoFar imported bodies sections result → KeepsMinimal bytes result
stays_minimal imported bodies sections bytes result encodes w g =
    let raw = raw_sections bytes g in
    let same : raw.sections ≡ sections = encodes_one Lawful-raw-module bytes raw.sections sections raw.encodes encodes in
    subst (EncodesSome MinimalWholeModule) (sym w.written) (whole_again w.moved (w.minimal (subst (AllByRecursion IsMinimalSection) same raw.minimal)))

-- ---- none

pub no_module : (code : HintedCode) (bytes : List ℕ) → ((sections : List SectionParts) → raw_module.Encodes bytes sections → ⊥) → (moved : List ℕ) → MovesHints code bytes moved → ⊥
no_module code bytes missing moved m = missing m.sections m.encodes

pub no_bodies : (code : HintedCode) (bytes : List ℕ) → ((bodies : List (List ℕ)) → (items byte_list).Encodes code.code.items bodies → ⊥) → (moved : List ℕ) → MovesHints code bytes moved → ⊥
no_bodies code bytes missing moved m = missing m.bodies m.are_bodies

bodies_are_lawful : IsLawfulBody (items byte_list)
bodies_are_lawful = Lawful-body (Lawful-items Lawful-byte-list)

each_in_range : (sections : List RawSection) (i : ℕ) (imported : ℕ) (bodies : List (List ℕ)) (moved : List SectionParts) (d : RawSection) → i < length sections → Each (IsMovedSection imported bodies) (all_parts_of sections) moved → AllByRecursion raw_section.InRange moved → CantMove imported bodies (parts_of (get_or sections i d)) → ⊥
each_in_range [] i imported bodies moved d lt all fit missing = absurd (omega (arith, lt))
each_in_range (s ∷ sections) zero imported bodies moved d lt all fit missing =
    let p = first_pair all in
    missing p.other (subst (AllByRecursion raw_section.InRange) p.are fit).0 p.first
each_in_range (s ∷ sections) (suc i) imported bodies moved d lt all fit missing =
    let p = first_pair all in
    each_in_range sections i imported bodies p.others d (omega (arith, lt)) p.rest (subst (AllByRecursion raw_section.InRange) p.are fit).1 missing

-- a section of the module can't be moved
pub no_section : (code : HintedCode) (bodies : List (List ℕ)) (sections : List RawSection) (bytes : List ℕ) (i : ℕ) (d : RawSection) → (items byte_list).Encodes code.code.items bodies → raw_module.Encodes bytes (all_parts_of sections) → i < length sections → CantMove code.imported_functions bodies (parts_of (get_or sections i d))
    → (moved : List ℕ) → MovesHints code bytes moved → ⊥
no_section code bodies sections bytes i d are encodes lt missing moved m =
    let same : m.sections ≡ all_parts_of sections = encodes_one Lawful-raw-module bytes m.sections (all_parts_of sections) m.encodes encodes in
    let there : m.bodies ≡ bodies = encodes_one bodies_are_lawful code.code.items m.bodies bodies m.are_bodies are in
    let moves = subst (λ (l : List SectionParts). Each (IsMovedSection code.imported_functions m.bodies) l m.moved) same m.moves in
    let all = subst (λ (b : List (List ℕ)). Each (IsMovedSection code.imported_functions b) (all_parts_of sections) m.moved) there moves in
    each_in_range sections i code.imported_functions bodies m.moved d lt all (Lawful-raw-module.in_range moved m.moved m.is_module) missing

-- ---- at most one

section_one : (imported : ℕ) (bodies : List (List ℕ)) (s moved other : SectionParts) → IsMovedSection imported bodies s moved → IsMovedSection imported bodies s other → moved ≡ other
section_one imported bodies s moved other (inl a) b =
    let text = codes "metadata.code.branch_hint" in
    let same : a.has.custom ≡ named text a.has.custom.data_bytes = ap (λ (t : List ℕ). named t a.has.custom.data_bytes) a.has.contents.0 in
    let has : HasHintBytes s a.has.custom.data_bytes = (a.has.is_custom, subst (λ (c : CustomParts). custom_body.Encodes s.body c) same a.has.holds) in
    let p = has_moved imported bodies s moved a.has.custom.data_bytes has (inl a) in
    let q = has_moved imported bodies s other a.has.custom.data_bytes has b in
    p.is ∙ ap (λ (t : List ℕ). section_of (0, custom_body.bytes (named text t))) (contents_one imported bodies a.has.custom.data_bytes p.bytes q.bytes p.moves q.moves) ∙ sym q.is
section_one imported bodies s moved other (inr a) (inl b) = absurd (a.1 (record { is_custom = b.has.is_custom; custom = b.has.custom; holds = b.has.holds; named = b.has.contents.0 }))
section_one imported bodies s moved other (inr a) (inr b) = a.0 ∙ sym b.0

-- the hints of a module are moved in one way
moved_one : (code : HintedCode) (bytes moved other : List ℕ) → MovesHints code bytes moved → MovesHints code bytes other → moved ≡ other
moved_one code bytes moved other a b =
    let bodies : b.bodies ≡ a.bodies = encodes_one bodies_are_lawful code.code.items b.bodies a.bodies b.are_bodies a.are_bodies in
    let sections : b.sections ≡ a.sections = encodes_one Lawful-raw-module bytes b.sections a.sections b.encodes a.encodes in
    let inside = subst (λ (l : List (List ℕ)). Each (IsMovedSection code.imported_functions l) b.sections b.moved) bodies b.moves in
    let all = subst (λ (l : List SectionParts). Each (IsMovedSection code.imported_functions a.bodies) l b.moved) sections inside in
    a.written ∙ ap raw_module.bytes (each_one (section_one code.imported_functions a.bodies) a.sections a.moved b.moved a.moves all) ∙ sym b.written

pub moves_in_one_way : (code : HintedCode) (bytes : List ℕ) → MovesInOneWay code bytes
moves_in_one_way code bytes = record { one = moved_one code bytes }

-- ---- the code of a module

imports_are_lawful : IsLawfulBody (items import_entry)
imports_are_lawful = Lawful-body (Lawful-items import_is_lawful)

count_one : (body : Option (List ℕ)) (n m : ℕ) → ImportsFunctions body n → ImportsFunctions body m → n ≡ m
count_one None n m a b = a ∙ sym b
count_one (Some body) n m a b = sym a.2 ∙ ap function_imports (encodes_one imports_are_lawful body a.0 b.0 a.1 b.1) ∙ b.2

-- two codes of a module are the same
pub record IsSameCode (a b : HintedCode) : Type 0 where
  pub count : a.imported_functions ≡ b.imported_functions
  pub bodies : a.code.items ≡ b.code.items

pub code_one : (bytes : List ℕ) (a b : HintedCode) → IsCodeOf bytes a → IsCodeOf bytes b → IsSameCode a b
code_one bytes a b p q =
    let same : q.sections ≡ p.sections = encodes_one Lawful-raw-module bytes q.sections p.sections q.encodes p.encodes in
    let imported = subst (λ (l : List SectionParts). ImportsFunctions (first_body_of import_section_id l) b.imported_functions) same q.imported in
    let body = subst (λ (l : List SectionParts). first_body_of code_section_id l ≡ Some b.code.items) same q.body in
    record {
      count = count_one (first_body_of import_section_id p.sections) a.imported_functions b.imported_functions p.imported imported;
      bodies = some_is a.code.items b.code.items (sym p.body ∙ body);
    }

pub same_moves : (a b : HintedCode) (bytes moved : List ℕ) → IsSameCode a b → MovesHints a bytes moved → MovesHints b bytes moved
same_moves a b bytes moved same m = record {
  bodies = m.bodies;
  are_bodies = subst (λ (l : List ℕ). (items byte_list).Encodes l m.bodies) same.bodies m.are_bodies;
  sections = m.sections;
  encodes = m.encodes;
  moved = m.moved;
  moves = subst (λ (n : ℕ). Each (IsMovedSection n m.bodies) m.sections m.moved) same.count m.moves;
  is_module = m.is_module;
  written = m.written;
}

-- the module has no code with hints, since its sections lack a part of it
pub no_code : (bytes : List ℕ) (sections : List SectionParts) → raw_module.Encodes bytes sections → (HasHintSection sections → (count : ℕ) (body : List ℕ) → ImportsFunctions (first_body_of import_section_id sections) count → first_body_of code_section_id sections ≡ Some body → ⊥) → (code : HintedCode) → IsCodeOf bytes code → ⊥
no_code bytes sections encodes missing code is =
    let same : is.sections ≡ sections = encodes_one Lawful-raw-module bytes is.sections sections is.encodes encodes in
    missing (subst HasHintSection same is.hinted) code.imported_functions code.code.items (subst (λ (l : List SectionParts). ImportsFunctions (first_body_of import_section_id l) code.imported_functions) same is.imported) (subst (λ (l : List SectionParts). first_body_of code_section_id l ≡ Some code.code.items) same is.body)

pub no_imports : (found : Option (List ℕ)) (body : List ℕ) → found ≡ Some body → ((imports : List ImportParts) → (items import_entry).Encodes body imports → ⊥) → (count : ℕ) → ImportsFunctions found count → ⊥
no_imports None body is missing count imported = absurd cc
no_imports (Some other) body is missing count imported = missing imported.0 (subst (λ (b : List ℕ). (items import_entry).Encodes b imported.0) (some_is other body is) imported.1)

pub no_body : {A : Type 0} (found : Option A) (body : A) → found ≡ None → found ≡ Some body → ⊥
no_body found body missing is = absurd cc

-- ---- sections with hints

-- a search that finds something tells what it means
if_found : {X : Type 0} (found : Option X) (P : X → Type 0) (Q : Type 0) → is_some found ≡ true → IfSome found P → ((x : X) → P x → Q) → Q
if_found None P Q is p make = absurd cc
if_found (Some x) P Q is p make = make x p

hinted_at : (sections : List RawSection) (i : ℕ) (d : RawSection) → i < length sections → IsHintSection (parts_of (get_or sections i d)) → HasHintSection (all_parts_of sections)
hinted_at [] i d lt is = absurd (omega (arith, lt))
hinted_at (s ∷ sections) zero d lt is = inl is
hinted_at (s ∷ sections) (suc i) d lt is = inr (hinted_at sections i d (omega (arith, lt)) is)

pub has_hints : {X : Type 0} (contents_of : X → List ℕ) (found : Option X) (sections : List RawSection) (i : ℕ) (d : RawSection) → i < length sections → is_some found ≡ true → IfSome found (λ contents. HasHintBytes (parts_of (get_or sections i d)) (contents_of contents)) → HasHintSection (all_parts_of sections)
has_hints contents_of found sections i d lt is has =
    let s = parts_of (get_or sections i d) in
    hinted_at sections i d lt (if_found found (λ contents. HasHintBytes s (contents_of contents)) (IsHintSection s) is has (λ contents h. record { is_custom = h.0; custom = named (codes "metadata.code.branch_hint") (contents_of contents); holds = h.1; named = refl }))

-- The laws of lists and sections that are rewritten and counted.
use Rattle.std.proofs.Common.{◌≡◌, ℕ, ◌+◌, ◌-◌, ◌<◌, ◌≤◌, true, false, List, [], ◌∷◌, ◌++◌, length, take, Result, Ok, Err, Option, Some, refl, sym, ap, subst, ◌∙◌, append_assoc, length-append, length-drop, length-take-le, inl, inr, arith}
use Rattle.std.proofs.lemmas.List.{append-nil}
use Rattle.wasm_codec.specs.declared.reader.cursor.Fault.{Fault}
use Rattle.wasm_codec.specs.declared.reader.cursor.Fault.TheVariants as faults
use Rattle.wasm_codec.specs.formats.Grammar.{IsBytes}
use Rattle.wasm_codec.specs.formats.Combinators.{Format, u32, a_byte}
use Rattle.wasm_codec.specs.formats.Numbers.{EncodesU32}
use Rattle.wasm_codec.specs.Lawful.{IsLawful}
use Rattle.wasm_codec.specs.Outcomes.{FailsMalformed}
use Rattle.wasm_codec.specs.Scanning.{SkipsMinimal}
use Rattle.wasm_codec.specs.Rewriter.{Rewriting, rewritten_at, rewriting_after, Gives, Rewrites, IsOpen}
use Rattle.wasm_codec.proofs.BodyLaws.{body_sound}
use Rattle.wasm_codec.proofs.FormatLaws.{Lawful-byte, Lawful-u32}
use Rattle.wasm_codec.proofs.Laws.{IsBytes-after}
use Rattle.wasm_codec.proofs.Shortening.{bytes_after}
use Rattle.wasm_codec.proofs.Skipping.{Stays, all_stay}
use Rattle.wasm_codec.proofs.RewriterLaws.{is_given, ItemsRewritten, no_items_rewritten, item_rewritten}
use Rattle.wasm_lists.proofs.CheckLaws.{Item, an_item}
use Rattle.wasm_sections.specs.formats.ModuleSections.{module_section, OfKind}
use Rattle.wasm_sections.proofs.ModuleSectionLaws.{module_section_is_lawful, of_kind, rewritten_by_kind}
use Rattle.wasm_modules.specs.Counting.{as_done, TellsLonger, CountsBefore, CountsSized, CountsList, CountsNone, CountsSection, IsCountedSection}
use Rattle.wasm_modules.specs.LongerItems.{CountsLonger, HasLonger, nothing, minimal, more}
use Rattle.wasm_modules.specs.declared.counting.ItemCounts.{ItemCounts}

-- So many items after the count were rewritten, of which so many were longer.
pub record Counted {V : Type 0} (F : Format V) (old here : Rewriting) (count i longer : ℕ) : Type 0 where
  pub rewritten : ItemsRewritten F old here count i
  pub fits : IsBytes here.place.left
  pub head : List ℕ
  pub back : List ℕ
  pub items : List V
  pub parts : old.place.left ≡ head ++ (back ++ here.place.left)
  pub counted : EncodesU32 head count
  pub len : length items ≡ i
  pub longer_items : HasLonger F back items longer
  pub few : longer ≤ i

pub counted_none : {V : Type 0} (F : Format V) (old here : Rewriting) (count : ℕ) → IsBytes old.place.left → rewritten_at u32 old ≡ Some (count, here) → Counted F old here count 0 0
counted_none F old here count fits e =
    let g = is_given u32 old count here e in
    let one = Lawful-u32.reads.sound old.place count here.place fits g.is_read in
    record { rewritten = no_items_rewritten F old here count e; fits = IsBytes-after old.place.left here.place.left count one fits; head = one.prefix; back = []; items = []; parts = one.parts; counted = one.encodes; len = refl; longer_items = nothing; few = omega arith }

-- the items so far and one more, of which so many are longer
counted_next : {V : Type 0} {F : Format V} → IsLawful F → (old here next : Rewriting) (count i longer more_longer : ℕ) (w : Counted F old here count i longer) → i < count → (e : rewriting_after F here ≡ Some next) → (one : Item F here next) → HasLonger F (w.back ++ one.prefix) (w.items ++ one.value ∷ []) more_longer → more_longer ≤ i + 1 → Counted F old next count (i + 1) more_longer
counted_next {V} {F} r old here next count i longer more_longer w lt e one has few = record {
  rewritten = item_rewritten F old here next count i w.rewritten lt e;
  fits = bytes_after one.prefix next.place.left (subst IsBytes one.parts w.fits);
  head = w.head;
  back = w.back ++ one.prefix;
  items = w.items ++ one.value ∷ [];
  parts = w.parts ∙ ap (λ (l : List ℕ). w.head ++ (w.back ++ l)) one.parts ∙ ap (λ (l : List ℕ). w.head ++ l) (sym (append_assoc w.back one.prefix next.place.left));
  counted = w.counted;
  len = omega (arith, length-append w.items (one.value ∷ []), w.len);
  longer_items = has;
  few = few;
}

-- one more was rewritten that was longer
pub counted_longer : {V : Type 0} {F : Format V} → IsLawful F → (old here next : Rewriting) (count i longer : ℕ) → Counted F old here count i longer → i < count → rewriting_after F here ≡ Some next → TellsLonger here next true → Counted F old next count (i + 1) (longer + 1)
counted_longer {V} {F} r old here next count i longer w lt e fewer =
    let one = an_item r here next w.fits e in
    counted_next r old here next count i longer (longer + 1) w lt e one (more one.value one.prefix w.longer_items one.encodes (omega (arith, one.read_len, one.written_len, fewer))) (omega (arith, w.few))

-- one more was rewritten that was minimally encoded
pub counted_short : {V : Type 0} {F : Format V} → IsLawful F → (old here next : Rewriting) (count i longer : ℕ) → Counted F old here count i longer → i < count → rewriting_after F here ≡ Some next → TellsLonger here next false → Counted F old next count (i + 1) longer
counted_short {V} {F} r old here next count i longer w lt e as_many =
    let one = an_item r here next w.fits e in
    let same : one.prefix ≡ F.bytes one.value = elim (r.minimal.least one.prefix one.value one.encodes) [ inl p ↦ p | inr fewer ↦ absurd (omega (arith, one.read_len, one.written_len, as_many)) ] in
    let has : HasLonger F (w.back ++ one.prefix) (w.items ++ one.value ∷ []) longer = subst (λ (t : List ℕ). HasLonger F (w.back ++ t) (w.items ++ one.value ∷ []) longer) (sym same) (minimal one.value w.longer_items (r.minimal.again one.prefix one.value one.encodes)) in
    counted_next r old here next count i longer longer w lt e one has (omega (arith, w.few))

-- an item that stays isn't longer than its minimal encoding
stays_short : {V : Type 0} (F : Format V) (here next : Rewriting) → Stays F here next → TellsLonger here next false
stays_short F here next s =
    let done : length next.done ≡ length here.done + s.size = omega (arith, ap (λ (r : Rewriting). length r.done) s.kept, length-append here.done (take s.size here.place.left), length-take-le s.size here.place.left s.within) in
    let left : length next.place.left ≡ length here.place.left - s.size = omega (arith, ap (λ (r : Rewriting). length r.place.left) s.kept, length-drop s.size here.place.left) in
    omega (arith, done, left)

-- a run of items that are minimally encoded was skipped
pub counted_skipped : {V : Type 0} {F : Format V} → IsLawful F → (old here next : Rewriting) (count i longer most items : ℕ) → Counted F old here count i longer → i + most ≤ count → SkipsMinimal F most here next items → Counted F old next count (i + items) longer
counted_skipped {F = F} r old here next count i longer most items w few skips =
    all_stay r (λ at n. Counted F old at count n longer) count (λ at after n h lt s. counted_short r old at after count n longer h lt s.passed (stays_short F at after s)) here next i most items w.fits w few skips

-- all were rewritten
pub counted_all : {V : Type 0} (F : Format V) (old here : Rewriting) (count i longer : ℕ) → Counted F old here count i longer → i ≡ count → CountsBefore F old.place.left here.place.left record { count = count; longer = longer }
counted_all F old here count i longer w full = record {
  body = w.head ++ w.back;
  parts = w.parts ∙ sym (append_assoc w.head w.back here.place.left);
  counted = record { head = w.head; back = w.back; items = w.items; parts = refl; counted = w.counted; all = w.len ∙ full; longer_items = w.longer_items };
}

-- ---- bodies and sections

-- the list fills the body after a size
pub sized_counted : {V : Type 0} (F : Format V) (old mid end : Rewriting) (mark size behind : ℕ) (counts : ItemCounts) → IsBytes old.place.left → IsOpen old mid mark size behind → CountsBefore F mid.place.left end.place.left counts → end.place.left ≡ [] → CountsSized F old.place.left counts
sized_counted F old mid end mark size behind counts fits o c none =
    let whole = body_sound old.place o.body o.after fits o.is_read in
    let inside : mid.place.left ≡ o.body = ap (λ (m : Rewriting). m.place.left) o.within in
    let body : c.body ≡ o.body = sym (append-nil c.body) ∙ ap (λ (l : List ℕ). c.body ++ l) (sym none) ∙ sym c.parts ∙ inside in
    record {
      size = whole.size;
      body = o.body;
      rest = o.after.left;
      parts = whole.parts ∙ append_assoc whole.size o.body o.after.left;
      sized = whole.counts;
      counted = subst (λ (l : List ℕ). CountsLonger F l counts.count counts.longer) body c.counted;
    }

done_fails : (result : Result (Option ItemCounts) Fault) → FailsMalformed result → FailsMalformed (as_done result)
done_fails (Ok x) bad = absurd bad
done_fails (Err fault) bad = bad

-- if the id can't be read, no section can
pub no_section : (old new : Rewriting) (fault : Fault) → Gives a_byte old new (Err fault) → Rewrites module_section old new (Err fault)
unfolding module_section
no_section old new faults.Memory none = none
no_section old new (faults.Malformed m) none = rw none refl

-- what rewrites and counts the content by its kind rewrites the section
pub section_rewritten : {id : ℕ} (old mid new : Rewriting) (result : Result (Option ItemCounts) Fault) → rewritten_at a_byte old ≡ Some (id, mid) → OfKind (λ V F C. CountsList F mid new result) (λ V F C. CountsNone F mid new result) (FailsMalformed result) id → Rewrites module_section old new (as_done result)
section_rewritten old mid new result begun content =
    rewritten_by_kind old mid new (as_done result) begun (of_kind (λ V F G h. h.rewrites) (λ V F G h. h.rewrites) (λ bad. done_fails result bad) content)

-- and counts the items of the section
pub section_counted : {id : ℕ} (old mid new : Rewriting) (counts : Option ItemCounts) → IsBytes old.place.left → rewritten_at a_byte old ≡ Some (id, mid) → OfKind (λ V F C. CountsList F mid new (Ok counts)) (λ V F C. CountsNone F mid new (Ok counts)) ⊥ id → CountsSection old.place.left counts
section_counted {id} old mid new counts fits begun content =
    let g = is_given a_byte old id mid begun in
    let one = Lawful-byte.reads.sound old.place id mid.place fits g.is_read in
    record {
      id = id;
      back = mid.place.left;
      parts = one.parts ∙ ap (λ (l : List ℕ). l ++ mid.place.left) one.encodes.0;
      told = of_kind (λ V F G h. h.counts) (λ V F G h. h.counts) (λ bad. bad) content;
    }

-- a section was rewritten, and its items counted
pub counted_section : (here next : Rewriting) (len : ℕ) (counts : Option ItemCounts) → IsBytes here.place.left → rewriting_after module_section here ≡ Some next → len ≡ length next.done - length here.done → CountsSection here.place.left counts → IsCountedSection here.place.left next.place.left len counts
counted_section here next len counts fits e written counted =
    let one = an_item module_section_is_lawful here next fits e in
    record { bytes = one.prefix; section = one.value; parts = one.parts; encodes = one.encodes; minimal = omega (arith, one.written_len, written); counted = counted }

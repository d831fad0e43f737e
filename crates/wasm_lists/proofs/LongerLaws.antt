-- Items that are rewritten and checked one after another.
use Rattle.std.proofs.Common.{◌≡◌, ℕ, ◌+◌, ◌<◌, Bool, true, false, [], length, Option, Some, None, IfSome, Ok, Err, sym, arith}
use Rattle.wasm_codec.specs.declared.reader.cursor.Fault.{Fault}
use Rattle.wasm_codec.specs.declared.reader.cursor.Fault.TheVariants as faults
use Rattle.wasm_codec.specs.declared.reader.malformed.Stop.{Stop}
use Rattle.wasm_codec.specs.formats.Grammar.{IsBytes, TakesBytes}
use Rattle.wasm_codec.specs.formats.Combinators.{Format, minimal_only}
use Rattle.wasm_codec.specs.Lawful.{IsLawful}
use Rattle.wasm_codec.specs.Rewriter.{Rewriting, rewriting_after, StopsAt}
use Rattle.wasm_codec.proofs.BodyRewriting.{joined_done}
use Rattle.wasm_codec.proofs.PlaceLists.{plain_none, Lawful-minimal_only}
use Rattle.wasm_codec.proofs.RewriterLaws.{Going, going, going_bytes, goes_on, all_gone}
use Rattle.wasm_lists.specs.declared.longer.LongerItem.{LongerItem}
use Rattle.wasm_codec.proofs.RefusalNumbers.{Counted, counted_before, counted_more, counted_none}
use Rattle.wasm_lists.specs.Longer.{CountsFirst, ChecksItem, ChecksItems, TellsFirst, first_of}

-- what is known of the items so far: all are in their minimal encodings, or this is the first that isn't
abbrev SoFar : {V : Type 0} → Format V → Rewriting → Rewriting → Option LongerItem → Type 0
SoFar F old here None = Going (minimal_only F) old here
SoFar F old here (Some item) = StopsAt (minimal_only F) old.place.left item.left

pub record CheckedModule {V : Type 0} (F : Format V) (old here : Rewriting) (first : Option LongerItem) : Type 0 where
  pub going : Going F old here
  pub so_far : SoFar F old here first

pub checked_none : {V : Type 0} (F : Format V) (old : Rewriting) → CheckedModule F old old None
checked_none F old = record { going = going F old; so_far = going (minimal_only F) old }

pub takes_minimal : {V : Type 0} (F : Format V) → TakesBytes F.Encodes → TakesBytes (minimal_only F).Encodes
takes_minimal F some = λ v g. some v g.0

after_item : {V : Type 0} (F : Format V) (old new : Rewriting) (minimal : Bool) → ChecksItem F old new (Ok minimal) → rewriting_after F old ≡ Some new
after_item F old new true h = h.0
after_item F old new false h = h.0

-- one more was checked
pub record ChecksOn {V : Type 0} (F : Format V) (old here next : Rewriting) (first : Option LongerItem) : Type 0 where
  pub checked : CheckedModule F old next first
  pub fewer : length next.place.left < length here.place.left

module _ {V : Type 0} {F : Format V} (law : IsLawful F) (some : TakesBytes F.Encodes) (old here next : Rewriting) (item : LongerItem) (fits : IsBytes old.place.left) (more : 0 < length here.place.left) (left : item.left ≡ length here.place.left) where
  so_far_on : (first : Option LongerItem) (minimal : Bool) → SoFar F old here first → ChecksItem F here next (Ok minimal) → SoFar F old next (first_of first minimal item)
  so_far_on (Some found) minimal w h = w
  so_far_on None true w h = (goes_on (Lawful-minimal_only law) (takes_minimal F some) old here next fits w more h.1).going
  so_far_on None false w h = record {
    values = w.values;
    prefix = w.progress.prefix;
    rest = here.place.left;
    parts = w.progress.parts;
    encodes = w.progress.encodes;
    none = plain_none (Lawful-minimal_only law) here.place (going_bytes old here fits w) h.1;
    len = sym left;
    some = omega (arith, left, more);
  }

  pub checked_on : (first : Option LongerItem) (minimal : Bool) → CheckedModule F old here first → ChecksItem F here next (Ok minimal) → ChecksOn F old here next (first_of first minimal item)
  checked_on first minimal j h =
      let one = goes_on law some old here next fits j.going more (after_item F here next minimal h) in
      record { checked = record { going = one.going; so_far = so_far_on first minimal j.so_far h }; fewer = one.fewer }

-- nothing is left
pub checked_all : {V : Type 0} {F : Format V} → IsLawful F → TakesBytes F.Encodes → (old here : Rewriting) (first : Option LongerItem) → IsBytes old.place.left → CheckedModule F old here first → here.place.left ≡ [] → ChecksItems F old here (Ok first)
checked_all {V} {F} law some old here first fits j none = (all_gone F old here j.going none, (none, tells first j.so_far)) where
  tells : (first : Option LongerItem) → SoFar F old here first → TellsFirst F old.place.left first
  tells None w =
      let all = joined_done (Lawful-minimal_only law) (takes_minimal F some) old here fits (all_gone (minimal_only F) old here w none) none in
      (all.values, all.encodes)
  tells (Some item) w = w

-- the next item isn't whole
pub checked_stops : {V : Type 0} {F : Format V} → IsLawful F → (old here new next : Rewriting) (first : Option LongerItem) (fault : Fault) (stop : Stop) → IsBytes old.place.left → CheckedModule F old here first → 0 < length here.place.left → stop.left ≡ length here.place.left → stop.fault ≡ fault → ChecksItem F here new (Err fault) → ChecksItems F old next (Err stop)
checked_stops law old here new next first faults.Memory stop fits j more left is none = absurd none
checked_stops {V} {F} law old here new next first (faults.Malformed m) stop fits j more left is none =
    let w = j.going in (
      record {
        values = w.values;
        prefix = w.progress.prefix;
        rest = here.place.left;
        parts = w.progress.parts;
        encodes = w.progress.encodes;
        none = plain_none law here.place (going_bytes old here fits w) none;
        len = sym left;
        some = omega (arith, left, more);
      },
      rw is tt,
    )

-- ---- the numbers of the items

-- what is counted so far: the items before the first that isn't in its minimal encoding
abbrev CountedSoFar : {V : Type 0} → Format V → Rewriting → Rewriting → Option LongerItem → ℕ → Type 0
CountedSoFar F old here None passed = Counted (minimal_only F) old.place.left here.place.left passed
CountedSoFar F old here (Some item) passed = CountsFirst F old.place.left item

pub record CheckedCount {V : Type 0} (F : Format V) (old here : Rewriting) (first : Option LongerItem) (passed : ℕ) : Type 0 where
  pub all : Counted F old.place.left here.place.left passed
  pub so_far : CountedSoFar F old here first passed

pub count_none : {V : Type 0} (F : Format V) (old : Rewriting) → CheckedCount F old old None 0
count_none F old = record { all = counted_none F old.place.left; so_far = counted_none (minimal_only F) old.place.left }

module _ {V : Type 0} {F : Format V} (law : IsLawful F) (some : TakesBytes F.Encodes) (old here next : Rewriting) (item : LongerItem) (fits : IsBytes old.place.left) (left : item.left ≡ length here.place.left) where
  count_so_far : (first : Option LongerItem) (minimal : Bool) → CountedSoFar F old here first item.passed → ChecksItem F here next (Ok minimal) → CountedSoFar F old next (first_of first minimal item) (item.passed + 1)
  count_so_far (Some found) minimal w h = w
  count_so_far None true w h = counted_more (Lawful-minimal_only law) (takes_minimal F some) old here next item.passed fits w h.1
  count_so_far None false w h = counted_before (minimal_only F) old.place.left here.place.left item.passed item.left w left

  pub count_on : (first : Option LongerItem) (minimal : Bool) → CheckedCount F old here first item.passed → ChecksItem F here next (Ok minimal) → CheckedCount F old next (first_of first minimal item) (item.passed + 1)
  count_on first minimal j h = record { all = counted_more law some old here next item.passed fits j.all (after_item F here next minimal h); so_far = count_so_far first minimal j.so_far h }

-- the number of the first item that isn't in its minimal encoding
pub count_first : {V : Type 0} (F : Format V) (old here : Rewriting) (first : Option LongerItem) (passed : ℕ) → CheckedCount F old here first passed → IfSome first (CountsFirst F old.place.left)
count_first F old here None passed j = tt
count_first F old here (Some item) passed j = j.so_far

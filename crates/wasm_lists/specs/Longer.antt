-- Items that are rewritten in place, and the first of them that isn't minimally encoded.
use Rattle.std.specs.Prelude.{◌≡◌, ℕ, ◌-◌, Bool, true, false, List, [], length, Option, Some, None, Result, Ok, Err}
use Rattle.wasm_codec.specs.declared.reader.cursor.Fault.{Fault}
use Rattle.wasm_codec.specs.declared.reader.cursor.Fault.TheVariants as faults
use Rattle.wasm_codec.specs.declared.reader.malformed.Stop.{Stop}
use Rattle.wasm_codec.specs.formats.Grammar.{Joined}
use Rattle.wasm_codec.specs.formats.Combinators.{Format, minimal_only}
use Rattle.wasm_codec.specs.formats.Bodies.{to_end}
use Rattle.wasm_codec.specs.Outcomes.{EncodesSome, IsMalformed}
use Rattle.wasm_codec.specs.Lists.{HasJoinedBefore}
use Rattle.wasm_codec.specs.Rewriter.{Rewriting, rewriting_after, StopsAt}
use Rattle.wasm_lists.specs.declared.longer.LongerItem.{LongerItem}

-- The call rewrites one item and tells whether it was minimally encoded, or fails with `Malformed`; it needs no memory.
abbrev pub ChecksItem : {V : Type 0} → Format V → Rewriting → Rewriting → Result Bool Fault → Type 0
ChecksItem F old new (Ok true) = (rewriting_after F old ≡ Some new) × (rewriting_after (minimal_only F) old ≡ Some new)
ChecksItem F old new (Ok false) = (rewriting_after F old ≡ Some new) × ((minimal_only F).at old.place ≡ None)
ChecksItem F old new (Err (faults.Malformed m)) = F.at old.place ≡ None
ChecksItem F old new (Err faults.Memory) = ⊥

-- The first item that isn't minimally encoded, after this one was found first and another was checked.
abbrev pub first_of : Option LongerItem → Bool → LongerItem → Option LongerItem
first_of (Some first) minimal item = Some first
first_of None true item = None
first_of None false item = Some item

-- All items of the bytes are minimally encoded, or the first that isn't has this number of bytes left at its start.
abbrev pub TellsFirst : {V : Type 0} → Format V → List ℕ → Option LongerItem → Type 0
TellsFirst F bytes None = EncodesSome (Joined (minimal_only F).Encodes) bytes
TellsFirst F bytes (Some item) = StopsAt (minimal_only F) bytes item.left

-- `passed` counts the minimally encoded items before the item.
abbrev pub CountsFirst : {V : Type 0} → Format V → List ℕ → LongerItem → Type 0
CountsFirst F bytes item = HasJoinedBefore (minimal_only F).Encodes bytes item.passed (length bytes - item.left)

-- The call rewrites all items to the end and tells the first that wasn't minimally encoded, or how many bytes are left
-- from the first malformed one; it needs no memory.
abbrev pub ChecksItems : {V : Type 0} → Format V → Rewriting → Rewriting → Result (Option LongerItem) Stop → Type 0
ChecksItems F old new (Ok first) = (rewriting_after (to_end F) old ≡ Some new) × ((new.place.left ≡ []) × TellsFirst F old.place.left first)
ChecksItems F old new (Err stop) = StopsAt F old.place.left stop.left × IsMalformed stop.fault

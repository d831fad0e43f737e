-- Lists that are encoded value by value: what a method adds that appends a value with a name, or a value that has
-- another such list as a part.
use Rattle.std.specs.Prelude.{ℕ, List, Result, ◌⊎◌}
use Rattle.wasm_codec.specs.declared.encode.EncodeError.{EncodeError}
use Rattle.wasm_codec.specs.formats.Combinators.{Format}
use Rattle.wasm_lists.specs.EncodedLists.{EncodedItems, IsFull, IsMemoryOrTooLong, IsUncounted}
use Rattle.wasm_sections.specs.ListSections.{Adds, GainsItem, StandsForItems}

-- A method that adds a value with a name of this length. It fails with `TooLong` if the list is full, or the name is
-- too long.
abbrev pub AddsNamed : {V : Type 0} → Format V → ℕ → EncodedItems → V → EncodedItems → Result (Unit {0}) EncodeError → Type 0
AddsNamed F len old value new = Adds (GainsItem F) old value new (IsMemoryOrTooLong (IsFull old ⊎ IsUncounted len))

-- The new list has one more value than the old one: `make` of the values that the inner list stands for.
abbrev pub GainsWith : {V W : Type 0} → Format V → Format W → (List V → W) → EncodedItems → EncodedItems → EncodedItems → Type 0
GainsWith {V} F G make old inner new = (values : List V) → StandsForItems F inner values → GainsItem G old (make values) new

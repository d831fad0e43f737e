-- Sections that are rewritten, with counts of the items that aren't minimally encoded.
use Rattle.std.specs.Prelude.{◌≡◌, ◌<◌, ◌≤◌, ◌-◌, ℕ, Bool, true, false, List, [], ◌∷◌, ◌++◌, length, Result, Ok, Err, Option, IfOk, IsNone, IsSomeAnd}
use Rattle.wasm_codec.specs.declared.reader.cursor.Fault.{Fault}
use Rattle.wasm_codec.specs.formats.Bodies.{sized}
use Rattle.wasm_codec.specs.formats.Combinators.{Format, items}
use Rattle.wasm_codec.specs.formats.Numbers.{EncodesU32}
use Rattle.wasm_codec.specs.Rewriter.{Rewriting, Rewrites}
use Rattle.wasm_code.specs.formats.Sections.{header}
use Rattle.wasm_sections.specs.formats.ModuleSectionParts.{ModuleSectionParts}
use Rattle.wasm_sections.specs.formats.ModuleSections.{OfKind, module_section}
use Rattle.wasm_modules.specs.LongerItems.{CountsLonger}
use Rattle.wasm_modules.specs.declared.counting.ItemCounts.{ItemCounts}

-- The same result, without its value.
abbrev pub as_done : {X : Type 0} → Result X Fault → Result (Unit {0}) Fault
as_done (Ok x) = Ok tt
as_done (Err fault) = Err fault

-- The Bool is true if and only if fewer bytes were written than read.
abbrev pub TellsLonger : Rewriting → Rewriting → Bool → Type 0
TellsLonger old new true = length new.done - length old.done < length old.place.left - length new.place.left
TellsLonger old new false = length old.place.left - length new.place.left ≤ length new.done - length old.done

-- The bytes before these last ones are a list of items that are counted so.
pub record CountsBefore {V : Type 0} (F : Format V) (left after : List ℕ) (counts : ItemCounts) : Type 0 where
  pub body : List ℕ
  pub parts : left ≡ body ++ after
  pub counted : CountsLonger F body counts.count counts.longer

-- The bytes begin with a size and a list of items that are counted so.
pub record CountsSized {V : Type 0} (F : Format V) (left : List ℕ) (counts : ItemCounts) : Type 0 where
  pub size : List ℕ
  pub body : List ℕ
  pub rest : List ℕ
  pub parts : left ≡ size ++ (body ++ rest)
  pub sized : EncodesU32 size (length body)
  pub counted : CountsLonger F body counts.count counts.longer

-- A size and a list are rewritten, and the items are counted.
pub record CountsList {V : Type 0} (F : Format V) (old new : Rewriting) (result : Result (Option ItemCounts) Fault) : Type 0 where
  pub rewrites : Rewrites (sized (items F)) old new (as_done result)
  pub counts : IfOk result (λ counts. IsSomeAnd counts (CountsSized F old.place.left))

-- A size and another body are rewritten, and no items are counted.
pub record CountsNone {V : Type 0} (F : Format V) (old new : Rewriting) (result : Result (Option ItemCounts) Fault) : Type 0 where
  pub rewrites : Rewrites (sized F) old new (as_done result)
  pub counts : IfOk result (λ counts. IsNone counts)

-- The bytes begin with a section. If it is a list, its items are counted so; otherwise there are no counts.
pub record CountsSection (left : List ℕ) (counts : Option ItemCounts) : Type 0 where
  pub id : ℕ
  pub back : List ℕ
  pub parts : left ≡ id ∷ back
  pub told : OfKind (λ V F C. IsSomeAnd counts (CountsSized F back)) (λ V F C. IsNone counts) ⊥ id

-- A section precedes these last bytes. Its minimal encoding has `len` bytes, and `counts` counts its items.
pub record IsCountedSection (left after : List ℕ) (len : ℕ) (counts : Option ItemCounts) : Type 0 where
  pub bytes : List ℕ
  pub section : ModuleSectionParts
  pub parts : left ≡ bytes ++ after
  pub encodes : module_section.Encodes bytes section
  pub minimal : len ≡ length (module_section.bytes section)
  pub counted : CountsSection left counts

-- A watcher was shown the sections before these last bytes, one after another: it saw the bytes from each on, and then
-- took the length and the counts.
pub data Shows {W : Type 0} (Sees : List ℕ → W → W → Type 0) (Takes : ℕ → Option ItemCounts → W → W → Type 0) (left : List ℕ) (old : W) : List ℕ → W → Type 0 where
  nothing : Shows Sees Takes left old left old
  more : {here after : List ℕ} {before seen new : W} {len : ℕ} {counts : Option ItemCounts} → Shows Sees Takes left old here before → Sees here before seen → IsCountedSection here after len counts → Takes len counts seen new → Shows Sees Takes left old after new

-- A watcher was shown each section of the module.
pub record ShowsModule {W : Type 0} (Sees : List ℕ → W → W → Type 0) (Takes : ℕ → Option ItemCounts → W → W → Type 0) (bytes : List ℕ) (old new : W) : Type 0 where
  pub sections : List ℕ
  pub parts : bytes ≡ header ++ sections
  pub shows : Shows Sees Takes sections old [] new

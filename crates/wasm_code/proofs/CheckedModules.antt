-- Modules whose sections were rewritten and checked.
use Rattle.std.proofs.Common.{◌≡◌, ℕ, ◌-◌, List, ◌++◌, length, Option, Some, None, subst}
use Rattle.wasm_codec.specs.Decoding.{ChecksAll}
use Rattle.wasm_codec.specs.formats.Combinators.{Format, minimal_only}
use Rattle.wasm_codec.specs.formats.Grammar.{Joined, TakesBytes}
use Rattle.wasm_codec.specs.Lawful.{IsLawful}
use Rattle.wasm_codec.specs.Outcomes.{IsLongestPrefix}
use Rattle.wasm_codec.specs.Rewriter.{Rewriting}
use Rattle.wasm_codec.proofs.PlaceLists.{Lawful-minimal_only}
use Rattle.wasm_lists.specs.declared.longer.LongerItem.{LongerItem}
use Rattle.wasm_lists.specs.Longer.{TellsFirst}
use Rattle.wasm_lists.proofs.LongerLaws.{takes_minimal}
use Rattle.wasm_code.specs.formats.Modules.{module_of}
use Rattle.wasm_code.specs.formats.Sections.{header}
use Rattle.wasm_code.specs.Modules.{IsModulePrefixOf}
use Rattle.wasm_code.specs.Longer.{verdict_at}
use Rattle.wasm_code.proofs.ModuleFormatLaws.{AfterHeader, headed_refused}

pub checked_module : {V : Type 0} {F : Format V} → IsLawful F → TakesBytes F.Encodes → (bytes body : List ℕ) (start : Rewriting) (len : ℕ) (first : Option LongerItem) → bytes ≡ header ++ body → AfterHeader bytes body start → length bytes ≡ len → TellsFirst F start.place.left first
    → ChecksAll (module_of (minimal_only F)).Encodes (IsModulePrefixOf (minimal_only F)) bytes (verdict_at len first)
checked_module {V} {F} law some bytes body start len None found h is told = record {
  given = (told.0, (body, found, subst (λ (l : List ℕ). Joined (minimal_only F).Encodes l told.0) h.left told.1));
  prefix = tt;
  unencoded = tt;
}
checked_module {V} {F} law some bytes body start len (Some item) found h is told =
    let refused = headed_refused (Lawful-minimal_only law) (takes_minimal F some) bytes body start item.left found h told in
    record {
      given = tt;
      prefix = subst (λ (n : ℕ). IsLongestPrefix (IsModulePrefixOf (minimal_only F)) bytes (n - item.left)) is refused.prefix;
      unencoded = refused.unencoded;
    }

-- The laws of names for indices, and what is written of them.
use Rattle.std.proofs.Common.{◌≡◌, ◌<◌, ◌^◌, ◌++◌, Some, refl}
use Rattle.wasm_codec.specs.Encoding.{IsMinimal}
use Rattle.wasm_codec.specs.Lawful.{IsLawful}
use Rattle.wasm_codec.specs.Leb128.{unsigned_leb128}
use Rattle.wasm_codec.specs.formats.Grammar.{TakesBytes}
use Rattle.wasm_codec.specs.formats.Numbers.{EncodesU32}
use Rattle.wasm_codec.specs.formats.Combinators.{items, u32}
use Rattle.wasm_codec.proofs.FormatLaws.{Lawful-both, Lawful-items, Lawful-made, Lawful-u32, takes_bytes}
use Rattle.wasm_codec.proofs.NumberLaws.{written}
use Rattle.wasm_lists.proofs.WrittenLists.{in_range_of}
use Rattle.wasm_externals.specs.formats.Names.{name}
use Rattle.wasm_externals.proofs.NameLaws.{name_is_lawful, in_name}
use Rattle.wasm_custom_sections.specs.formats.NameParts.{NamingParts, IndirectParts}
use Rattle.wasm_custom_sections.specs.formats.Names.{naming, naming_of, indirect_naming, indirect_of}

pub naming_is_lawful : IsLawful naming
unfolding naming
naming_is_lawful = Lawful-made naming_of (λ n. Some (n.index, n.name)) (λ p. refl) (Lawful-both Lawful-u32 name_is_lawful)

pub naming_takes : TakesBytes naming.Encodes
unfolding naming
naming_takes = takes_bytes naming_is_lawful refl

pub indirect_is_lawful : IsLawful indirect_naming
unfolding indirect_naming
indirect_is_lawful = Lawful-made indirect_of (λ n. Some (n.index, n.names)) (λ p. refl) (Lawful-both Lawful-u32 (Lawful-items naming_is_lawful))

pub indirect_takes : TakesBytes indirect_naming.Encodes
unfolding indirect_naming
indirect_takes = takes_bytes indirect_is_lawful refl

-- ---- writing

naming_there : (n : NamingParts) → n.index < 2 ^ 32 → name.InRange n.name → naming.InRange n
unfolding naming
naming_there n small fits = ((small, fits), refl)

pub naming_written : (n : NamingParts) → IsMinimal EncodesU32 unsigned_leb128 n.index → IsMinimal name.Encodes name.bytes n.name → IsMinimal naming.Encodes naming.bytes n
naming_written n i h = written naming_is_lawful.minimal n (naming_there n (in_range_of u32 Lawful-u32 n.index i) (in_name n.name h))

pub indirect_there : (n : IndirectParts) → n.index < 2 ^ 32 → (items naming).InRange n.names → indirect_naming.InRange n
unfolding indirect_naming
indirect_there n small fits = ((small, fits), refl)

pub indirect_bytes : (n : IndirectParts) → indirect_naming.bytes n ≡ unsigned_leb128 n.index ++ (items naming).bytes n.names
unfolding indirect_naming
indirect_bytes n = refl

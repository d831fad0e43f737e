-- Formats of types of which no encoding is a proper prefix of another.
use Rattle.wasm_codec.specs.Lawful.{IsPrefixFree}
use Rattle.wasm_types.specs.formats.Types.{storage_type, sub_type, recursive_type}

-- No encoding of a type of one of these kinds is a proper prefix of another of its kind.
pub record TypesArePrefixFree : Type 0 where
  pub storage_types : IsPrefixFree storage_type.Encodes
  pub sub_types : IsPrefixFree sub_type.Encodes
  pub entries : IsPrefixFree recursive_type.Encodes

-- Formats of code bodies and sections of which no encoding is a proper prefix of another.
use Rattle.wasm_codec.specs.Lawful.{IsPrefixFree}
use Rattle.wasm_code.specs.formats.CodeBodies.{code_body}
use Rattle.wasm_code.specs.formats.Modules.{raw_section, typed_section}

-- No encoding of a code body is a proper prefix of another.
pub record CodeBodiesArePrefixFree : Type 0 where
  pub code_bodies : IsPrefixFree code_body.Encodes

-- No encoding of a section, raw or decoded, is a proper prefix of another of its kind.
pub record SectionsArePrefixFree : Type 0 where
  pub sections : IsPrefixFree raw_section.Encodes
  pub decoded_sections : IsPrefixFree typed_section.Encodes

-- The laws of the formats of an export.
use Rattle.std.proofs.Common.{refl, arith}
use Rattle.wasm_codec.specs.formats.Bodies.{bytes_to_end}
use Rattle.wasm_codec.specs.formats.Grammar.{TakesBytes}
use Rattle.wasm_codec.specs.Lawful.{IsLawful, IsLawfulBody}
use Rattle.wasm_codec.proofs.BodyLaws.{Lawful-bytes_to_end, Lawful-byte-list}
use Rattle.wasm_codec.proofs.FormatLaws.{Lawful-after, Lawful-both, Lawful-u32, takes_bytes}
use Rattle.example_sections.specs.Exports.{export}

pub Lawful-export : IsLawful export
Lawful-export = Lawful-both Lawful-byte-list (Lawful-after 0x00 (omega arith) Lawful-u32)

pub export_takes : TakesBytes export.Encodes
export_takes = takes_bytes Lawful-export refl

pub bytes_are_lawful : IsLawfulBody bytes_to_end
bytes_are_lawful = Lawful-bytes_to_end

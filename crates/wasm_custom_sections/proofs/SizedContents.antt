-- The laws of contents that follow their size.
use Rattle.wasm_codec.specs.Lawful.{IsLawfulBody}
use Rattle.wasm_codec.proofs.BodyLaws.{Lawful-body}
use Rattle.wasm_externals.specs.formats.Names.{name}
use Rattle.wasm_externals.proofs.NameLaws.{name_is_lawful}

pub name_body_is_lawful : IsLawfulBody name
name_body_is_lawful = Lawful-body name_is_lawful

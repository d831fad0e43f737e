use Rattle.std.proofs.Common.{refl}
use Rattle.wasm_codec.proofs.BodyLaws.{Lawful-made-body, Lawful-bytes_to_end}
use Rattle.wasm_code.specs.formats.Sections.{raw_bytes}
use Rattle.wasm_code.specs.formats.Modules.{bytes_part}
use Rattle.wasm_code.proofs.normaliser.RawContentRewritableBody.is_lawful.Goals as goal

pub returns : goal.returns
returns c = Lawful-made-body raw_bytes bytes_part (λ bytes. refl) Lawful-bytes_to_end

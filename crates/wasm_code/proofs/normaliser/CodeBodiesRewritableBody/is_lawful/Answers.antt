use Rattle.std.proofs.Common.{refl}
use Rattle.wasm_codec.proofs.FormatLaws.{Lawful-made}
use Rattle.wasm_codec.proofs.BodyLaws.{Lawful-body}
use Rattle.wasm_code.proofs.CodeBodyLaws.{Lawful-code-section-body}
use Rattle.wasm_code.specs.formats.Sections.{code_bodies}
use Rattle.wasm_code.specs.formats.Modules.{bodies_part}
use Rattle.wasm_code.proofs.normaliser.CodeBodiesRewritableBody.is_lawful.Goals as goal

pub returns : goal.returns
returns c = Lawful-body (Lawful-made code_bodies bodies_part (λ bodies. refl) Lawful-code-section-body)

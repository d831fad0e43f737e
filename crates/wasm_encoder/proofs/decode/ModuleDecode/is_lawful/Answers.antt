use Rattle.wasm_code.proofs.ModuleFormatLaws.{Lawful-raw-module, is_minimal_module}
use Rattle.wasm_code.proofs.PrefixLaws.{nothing_or}
use Rattle.wasm_encoder.proofs.decode.ModuleDecode.is_lawful.Goals as goal

pub returns : goal.returns
returns c = record { lawful = Lawful-raw-module; minimal = is_minimal_module; prefixes = nothing_or _; minimal_prefixes = nothing_or _ }

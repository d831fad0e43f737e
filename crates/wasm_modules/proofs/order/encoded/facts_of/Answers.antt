use Rattle.std.proofs.Common.{◌≡◌, ℕ, subst}
use Rattle.wasm_code.specs.formats.Sections.{parts_of}
use Rattle.wasm_modules.specs.ModuleOrder.{facts_of}
use Rattle.wasm_modules.proofs.EncodedOrderLaws.{facts_by, told_count}
use Rattle.wasm_modules.proofs.order.encoded.facts_of.Goals as goal

pub returns-in-12 : goal.returns-in-12
returns-in-12 c s holds = subst (λ (id : ℕ). facts_by id c.first_number-count.result ≡ facts_of s) c.in-12.is (told_count (parts_of c.args.section.now) s c.first_number-count.result holds c.first_number-count.ensures)

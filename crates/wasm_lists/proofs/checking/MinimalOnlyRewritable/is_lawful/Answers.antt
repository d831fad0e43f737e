use Rattle.wasm_codec.proofs.PlaceLists.{Lawful-minimal_only}
use Rattle.wasm_lists.proofs.checking.MinimalOnlyRewritable.is_lawful.Goals as goal

pub returns-clause-lawful : goal.returns-clause-lawful
returns-clause-lawful g c = Lawful-minimal_only c.is_lawful.ensures.lawful

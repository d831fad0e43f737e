use Rattle.wasm_codec.proofs.MinimalIfLaws.{flag, Lawful-minimal_if}
use Rattle.wasm_lists.proofs.reading.read_item.Goals as goal

pub returns-in_err-item-clause-lawful : goal.returns-in_err-item-clause-lawful
returns-in_err-item-clause-lawful g c = Lawful-minimal_if (flag g.row.STRICT) c.is_lawful.ensures.lawful

pub returns-then-not-is_minimal-clause-lawful : goal.returns-then-not-is_minimal-clause-lawful
returns-then-not-is_minimal-clause-lawful g c = Lawful-minimal_if (flag g.row.STRICT) c.is_lawful.ensures.lawful

pub returns-clause-lawful : goal.returns-clause-lawful
returns-clause-lawful g c = Lawful-minimal_if (flag g.row.STRICT) c.is_lawful.ensures.lawful

use Rattle.wasm_codec.specs.formats.Combinators.{minimal_if}
use Rattle.wasm_codec.proofs.MinimalIfLaws.{flag}
use Rattle.wasm_codec.proofs.RefusalNumbers.{stop_prefix, stop_within}
use Rattle.wasm_lists.proofs.reading.read_items_to_end.Goals as goal

pub returns-in-Err-clause-prefix : goal.returns-in-Err-clause-prefix
returns-in-Err-clause-prefix g c = rw c.stopped.ensures.error (stop_prefix (minimal_if (flag g.row.STRICT) g.T.Readable.format) c.args.bytes.now c.in-Err.stop c.in-Err.ensures.stops)

pub returns-in-Err-clause-within : goal.returns-in-Err-clause-within
returns-in-Err-clause-within g c = rw c.stopped.ensures.error (stop_within (minimal_if (flag g.row.STRICT) g.T.Readable.format) c.args.bytes.now c.in-Err.stop c.in-Err.ensures.stops)

use Rattle.wasm_codec.specs.formats.Combinators.{minimal_if}
use Rattle.wasm_codec.proofs.MinimalIfLaws.{flag}
use Rattle.wasm_code.proofs.SectionStops.{counts_none, counts_sections, names_item, names_none, stop_longest, stop_unencoded}
use Rattle.wasm_code.proofs.raw.read_module_of.Goals as goal

pub returns-in-Ok-clause-reads : goal.returns-in-Ok-clause-reads
returns-in-Ok-clause-reads g c = record { given = (c.in-Some.rest.now, c.in-Some.ensures.found, c.in-Ok.ensures.given); prefix = tt; unencoded = tt }

pub returns-in-Err-clause-reads : goal.returns-in-Err-clause-reads
returns-in-Err-clause-reads g c =
    let F = minimal_if (flag g.row.STRICT) g.T.Readable.format in
    rw c.in_module.ensures.error (record {
      given = tt;
      prefix = stop_longest F c.args.bytes.now c.in-Some.rest.now c.in-Err.stop c.in-Some.ensures.found c.in-Err.ensures.stops;
      unencoded = stop_unencoded F c.args.bytes.now c.in-Some.rest.now c.in-Err.stop c.in-Some.ensures.found c.in-Err.ensures.stops;
    })

pub returns-in-Err-clause-counts : goal.returns-in-Err-clause-counts
returns-in-Err-clause-counts g c = counts_sections (minimal_if (flag g.row.STRICT) g.T.Readable.format) c.args.bytes.now c.in-Some.rest.now c.in-Err.stop c.in_module.result c.in-Some.ensures.found c.in_module.ensures.error c.in_module.ensures.number c.in-Err.ensures.stops.within c.in-Err.ensures.passed

pub returns-in_default-clause-counts : goal.returns-in_default-clause-counts
returns-in_default-clause-counts g c = counts_none (minimal_if (flag g.row.STRICT) g.T.Readable.format) c.args.bytes.now c.no_header.result c.no_header.ensures.section

pub returns-in-Err-clause-names : goal.returns-in-Err-clause-names
returns-in-Err-clause-names g c = names_item g.T.Readable.Breaks c.args.bytes.now c.in-Some.rest.now c.in-Err.stop c.in_module.result c.in-Some.ensures.found c.in_module.ensures.error c.in_module.ensures.item c.in-Err.ensures.stops.within (c.in-Err.ensures.names)

pub returns-in_default-clause-names : goal.returns-in_default-clause-names
returns-in_default-clause-names g c = names_none g.T.Readable.Breaks c.args.bytes.now c.no_header.result c.no_header.ensures.item

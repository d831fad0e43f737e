use Rattle.wasm_codec.specs.formats.Combinators.{minimal_only}
use Rattle.wasm_code.specs.formats.Modules.{raw_section}
use Rattle.wasm_code.proofs.SectionStops.{counts_none, counts_sections, stop_longest, stop_unencoded}
use Rattle.wasm_code.proofs.raw.walk_sections.Goals as goal

pub returns-in-Err-clause-checks : goal.returns-in-Err-clause-checks
returns-in-Err-clause-checks c =
    let F = minimal_only raw_section in
    rw c.in_module.ensures.error (record {
      given = tt;
      prefix = stop_longest F c.args.bytes.now c.in-Some.rest.now c.in-Err.stop c.in-Some.ensures.found c.in-Err.ensures.stops;
      unencoded = stop_unencoded F c.args.bytes.now c.in-Some.rest.now c.in-Err.stop c.in-Some.ensures.found c.in-Err.ensures.stops;
    })

pub returns-in-Err-clause-counts : goal.returns-in-Err-clause-counts
returns-in-Err-clause-counts c = counts_sections (minimal_only raw_section) c.args.bytes.now c.in-Some.rest.now c.in-Err.stop c.in_module.result c.in-Some.ensures.found c.in_module.ensures.error c.in_module.ensures.number c.in-Err.ensures.stops.within c.in-Err.ensures.passed

pub returns-in_default-clause-counts : goal.returns-in_default-clause-counts
returns-in_default-clause-counts c = counts_none (minimal_only raw_section) c.args.bytes.now c.no_header.result c.no_header.ensures.section

use Rattle.wasm_codec.specs.formats.Combinators.{minimal_only}
use Rattle.wasm_code.proofs.SectionStops.{counts_none, counts_sections, names_item, names_none, stop_longest, stop_unencoded}
use Rattle.wasm_code.proofs.raw.check_module_of.Goals as goal

pub returns-in-Err-clause-checks : goal.returns-in-Err-clause-checks
returns-in-Err-clause-checks g c =
    let F = minimal_only g.T.Rewritable.format in
    rw c.in_module.ensures.error (record {
      given = tt;
      prefix = stop_longest F c.args.bytes.now c.in-Some.rest.now c.in-Err.stop c.in-Some.ensures.found c.in-Err.ensures.stops;
      unencoded = stop_unencoded F c.args.bytes.now c.in-Some.rest.now c.in-Err.stop c.in-Some.ensures.found c.in-Err.ensures.stops;
    })

pub returns-in-Err-clause-counts : goal.returns-in-Err-clause-counts
returns-in-Err-clause-counts g c = λ never. counts_sections (minimal_only g.T.Rewritable.format) c.args.bytes.now c.in-Some.rest.now c.in-Err.stop c.in_module.result c.in-Some.ensures.found c.in_module.ensures.error c.in_module.ensures.number c.in-Err.ensures.stops.within (c.in-Err.ensures.passed never)

pub returns-in_default-clause-counts : goal.returns-in_default-clause-counts
returns-in_default-clause-counts g c = λ never. counts_none (minimal_only g.T.Rewritable.format) c.args.bytes.now c.no_header.result c.no_header.ensures.section

pub returns-in-Err-clause-names : goal.returns-in-Err-clause-names
returns-in-Err-clause-names g c = names_item g.T.Rewritable.Breaks c.args.bytes.now c.in-Some.rest.now c.in-Err.stop c.in_module.result c.in-Some.ensures.found c.in_module.ensures.error c.in_module.ensures.item c.in-Err.ensures.stops.within (c.in-Err.ensures.names)

pub returns-in_default-clause-names : goal.returns-in_default-clause-names
returns-in_default-clause-names g c = names_none g.T.Rewritable.Breaks c.args.bytes.now c.no_header.result c.no_header.ensures.item

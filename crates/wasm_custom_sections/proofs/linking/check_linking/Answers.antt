use Rattle.std.proofs.Common.{true}
use Rattle.wasm_codec.proofs.DecodingLaws.{error_is}
use Rattle.wasm_custom_sections.proofs.LinkingLaws.{no_version, subsection_refused, subsections_there}
use Rattle.wasm_custom_sections.proofs.linking.check_linking.Goals as goal

pub returns-in-Err-clause-checks : goal.returns-in-Err-clause-checks
returns-in-Err-clause-checks c =
    let refused = no_version true c.args.bytes.now c.in-Err.ensures.none in
    rw (c.new.ensures.error, error_is c.in-Err.fault 0 c.in-Err.ensures.err) (record { given = tt; prefix = refused.prefix; unencoded = refused.unencoded })

pub returns-in-Ok-check_items_to_end-clause-checks : goal.returns-in-Ok-check_items_to_end-clause-checks
returns-in-Ok-check_items_to_end-clause-checks c = record { given = subsections_there true c.args.bytes.now c.in-Ok.rest.now c.in-Ok.ensures.ok c.in-Ok-check_items_to_end.ensures.given; prefix = tt; unencoded = tt }

pub returns-in-Err-Malformed-clause-checks : goal.returns-in-Err-Malformed-clause-checks
returns-in-Err-Malformed-clause-checks c =
    let h = rw c.in-Err-Malformed.field-0-is at c.in-Err-Malformed.ensures in
    let refused = subsection_refused true c.args.bytes.now c.in-Ok.rest.now c.in-Ok.ensures.ok c.in-Err-Malformed.refusal.at h.within h.prefix in
    rw c.behind_version.ensures.error (record { given = tt; prefix = refused.prefix; unencoded = refused.unencoded })

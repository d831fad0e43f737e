use Rattle.wasm_codec.proofs.DecodingLaws.{error_is}
use Rattle.wasm_codec.proofs.MinimalIfLaws.{flag}
use Rattle.wasm_custom_sections.proofs.LinkingLaws.{no_version, subsection_refused}
use Rattle.wasm_custom_sections.proofs.linking.read_linking.Goals as goal

pub returns-in-Err-clause-reads : goal.returns-in-Err-clause-reads
returns-in-Err-clause-reads g c =
    let refused = no_version (flag g.row.STRICT) c.args.bytes.now c.in-Err.ensures.none in
    rw (c.new.ensures.error, error_is c.in-Err.fault 0 c.in-Err.ensures.err) (record { given = tt; prefix = refused.prefix; unencoded = refused.unencoded })

pub returns-in-Err-Malformed-clause-reads : goal.returns-in-Err-Malformed-clause-reads
returns-in-Err-Malformed-clause-reads g c =
    let h = rw c.in-Err-Malformed.field-0-is at c.in-Err-Malformed.ensures in
    let refused = subsection_refused (flag g.row.STRICT) c.args.bytes.now c.in-Ok.rest.now c.in-Ok.ensures.ok c.in-Err-Malformed.refusal.at h.within h.prefix in
    rw c.behind_version.ensures.error (record { given = tt; prefix = refused.prefix; unencoded = refused.unencoded })

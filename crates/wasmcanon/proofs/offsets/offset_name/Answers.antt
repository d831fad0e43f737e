use Rattle.wasm_code.specs.formats.Sections.{parts_of}
use Rattle.wasmcanon.specs.StaleSections.{KeepsNoOffsets}
use Rattle.wasmcanon.proofs.StaleLaws.{keeps_none, if_none}
use Rattle.wasmcanon.proofs.offsets.offset_name.Goals as goal

pub returns-in_err-name-clause-none : goal.returns-in_err-name-clause-none
returns-in_err-name-clause-none c = if_none c.from_residual.result (KeepsNoOffsets c.args.hints_moved (parts_of c.args.section)) (λ name is keeps. c.in_err-name.ensures.none name is)

pub returns-clause-none : goal.returns-clause-none
returns-clause-none c = keeps_none c.args.hints_moved (parts_of c.args.section) c.in_ok-name.name.now c.in_ok-name.ensures.found c.in_ok-name.ensures.one (c.is_stale_name.ensures.no c.if-is_stale_name.false)

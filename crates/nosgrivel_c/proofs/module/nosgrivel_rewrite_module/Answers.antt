use Rattle.wasm_code.specs.Modules.{IsTypedModulePrefix}
use Rattle.wasm_code.specs.formats.Modules.{typed_module}
use Rattle.nosgrivel_c.proofs.DeliveryLaws.{rewrites_normal}
use Rattle.nosgrivel_c.proofs.module.nosgrivel_rewrite_module.Goals as goal

pub returns : goal.returns
returns c =
    let n = c.rewrite_module_in_place in
    record { rewrites = rewrites_normal typed_module IsTypedModulePrefix c.args.bytes.now n.new.bytes n.result c.report.new.count c.report.result n.ensures.normalises c.report.ensures }

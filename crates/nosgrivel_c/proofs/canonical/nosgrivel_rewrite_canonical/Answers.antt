use Rattle.wasm_code.specs.Modules.{IsModulePrefixOf}
use Rattle.wasm_sections.specs.formats.ModuleSections.{module_section, whole_module}
use Rattle.nosgrivel_c.proofs.DeliveryLaws.{rewrites_normal}
use Rattle.nosgrivel_c.proofs.canonical.nosgrivel_rewrite_canonical.Goals as goal

pub returns : goal.returns
returns c =
    let n = c.rewrite_in_place in
    record { rewrites = rewrites_normal whole_module (IsModulePrefixOf module_section) c.args.bytes.now n.new.bytes n.result c.report.new.count c.report.result n.ensures.normalises c.report.ensures }

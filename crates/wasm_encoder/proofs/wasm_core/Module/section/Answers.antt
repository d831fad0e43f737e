use Rattle.wasm_codec.specs.Encoding.{IsRefusal}
use Rattle.wasm_encoder.proofs.WholeModuleLaws.{appends_section}
use Rattle.wasm_encoder.proofs.wasm_core.Module.section.Goals as goal

pub returns : goal.returns
returns g c = record { appends = appends_section c.self.inside.bytes.items c.args.self.now c.append_section.new.dst.items (g.S.Encode.bytes c.args.section.now) c.id.result (g.S.Section.id c.args.section.now) (g.S.Encode.CanEncode c.args.section.now) (g.S.Encode.IsWritten c.args.section.now) (IsRefusal g.S.Encode.CanEncode g.S.Encode.refuses c.args.section.now) c.append_section.result c.self.view_is c.id.ensures c.append_section.ensures.ok c.append_section.ensures.can c.append_section.ensures.written c.append_section.ensures.refused c.append_section.ensures.err }

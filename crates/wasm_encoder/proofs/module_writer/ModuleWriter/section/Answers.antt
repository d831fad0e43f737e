use Rattle.std.proofs.Common.{refl}
use Rattle.wasm_codec.specs.Encoding.{IsRefusal}
use Rattle.wasm_encoder.proofs.WriterLaws.{section_written}
use Rattle.wasm_encoder.proofs.module_writer.ModuleWriter.section.Goals as goal

pub returns : goal.returns
returns g c = record { writes = section_written (g.S.Section.id c.args.section.now) (g.S.Encode.bytes c.args.section.now) (g.S.Encode.CanEncode c.args.section.now) (g.S.Encode.IsWritten c.args.section.now) (IsRefusal g.S.Encode.CanEncode g.S.Encode.refuses c.args.section.now) (g.W.Write.contents c.self.inside.writer) c.args.self.now (g.W.Write.contents c.write_to.new.writer) (g.W.Write.contents c.write_to.new.writer) c.in_ok-encoded.encoded c.in_ok-encoded.ensures.encodes.ok c.in_ok-encoded.ensures.encodes.can c.in_ok-encoded.ensures.encodes.written c.in_ok-write_to.ensures.writes.ok c.self.view_is refl }

use Rattle.std.proofs.Common.{subst}
use Rattle.wasm_codec.specs.Encoding.{IsCount}
use Rattle.wasm_codec.specs.Leb128.{unsigned_leb128}
use Rattle.wasm_codec.proofs.AppendLaws.{kept_before, where_ok}
use Rattle.wasm_sections.specs.formats.EntryParts.{custom_parts}
use Rattle.wasm_sections.proofs.CustomLaws.{custom_written, front_appended}
use Rattle.wasm_sections.proofs.ModuleSectionLaws.{custom_section_written}
use Rattle.wasm_sections.proofs.custom.append_front.Goals as goal

pub returns-clause-ok : goal.returns-clause-ok
returns-clause-ok g c = front_appended c.append_name.result (custom_parts c.args.section.now) c.in_ok-size.size c.args.sink.now.items c.encode.new.sink.items c.append_name.new.sink.items c.in_ok-size.ensures.ok c.in_ok-encode.ensures.ok c.append_name.ensures.ok

pub returns-clause-minimal : goal.returns-clause-minimal
returns-clause-minimal g c = where_ok c.append_name.result (λ named. custom_written (custom_parts c.args.section.now) named c.are_bytes.ensures) c.append_name.ensures.written

pub returns-clause-whole : goal.returns-clause-whole
returns-clause-whole g c = custom_section_written c.append_name.result (custom_parts c.args.section.now) (subst IsCount c.in_ok-size.ensures.ok c.in_ok-encode.ensures.can) (returns-clause-minimal g c)

pub returns-clause-kept : goal.returns-clause-kept
returns-clause-kept g c = kept_before c.args.sink.now.items (unsigned_leb128 c.in_ok-size.size) c.encode.new.sink.items c.append_name.new.sink.items c.in_ok-encode.ensures.ok c.append_name.ensures.kept

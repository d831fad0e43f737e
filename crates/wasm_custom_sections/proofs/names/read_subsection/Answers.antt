use Rattle.std.proofs.Common.{arith, refl}
use Rattle.std.proofs.lemmas.Result.{err_from_is_err_and}
use Rattle.wasm_custom_sections.specs.formats.NameParts.{all_naming_parts, all_indirect_parts, subsection_parts}
use Rattle.wasm_custom_sections.proofs.SubsectionLaws.{no_id, kind_mapped, unknown_read, unknown_fault, module_name_kind, functions_kind, locals_kind, labels_kind, types_kind, tables_kind, memories_kind, globals_kind, elements_kind, data_segments_kind, fields_kind, tags_kind}
use Rattle.wasm_custom_sections.specs.declared.names.NameSubsection.TheVariants as subsections
use Rattle.wasm_custom_sections.proofs.names.read_subsection.Goals as goal

pub returns-in_err-id : goal.returns-in_err-id
returns-in_err-id c =
    let p = err_from_is_err_and c.from_residual.result c.from_residual.ensures.1 in
    rw (p.1, p.2) (record { reads = no_id c.args.cursor.now c.byte_of.new.self c.in_err-id.field-0.0 c.in_err-id.ensures.reads })

pub returns-in-0 : goal.returns-in-0
returns-in-0 c = record { reads = kind_mapped c.in_ok-id.id c.args.cursor.now c.byte_of.new.self c.read_sized_name.new.cursor c.in_ok-id.ensures.reads module_name_kind c.in-0.is (λ name. name.now) subsection_parts subsections.Module (λ x. refl) c.read_sized_name.result c.map.result c.read_sized_name.ensures.reads c.map.ensures.cases }

pub returns-in-1 : goal.returns-in-1
returns-in-1 c = record { reads = kind_mapped c.in_ok-id.id c.args.cursor.now c.byte_of.new.self c.read_sized_list.new.cursor c.in_ok-id.ensures.reads functions_kind c.in-1.is all_naming_parts subsection_parts subsections.Functions (λ x. refl) c.read_sized_list.result c.map-in-1.result c.read_sized_list.ensures.reads c.map-in-1.ensures.cases }

pub returns-in-2 : goal.returns-in-2
returns-in-2 c = record { reads = kind_mapped c.in_ok-id.id c.args.cursor.now c.byte_of.new.self c.read_sized_list-in-2.new.cursor c.in_ok-id.ensures.reads locals_kind c.in-2.is all_indirect_parts subsection_parts subsections.Locals (λ x. refl) c.read_sized_list-in-2.result c.map-in-2.result c.read_sized_list-in-2.ensures.reads c.map-in-2.ensures.cases }

pub returns-in-3 : goal.returns-in-3
returns-in-3 c = record { reads = kind_mapped c.in_ok-id.id c.args.cursor.now c.byte_of.new.self c.read_sized_list-in-3.new.cursor c.in_ok-id.ensures.reads labels_kind c.in-3.is all_indirect_parts subsection_parts subsections.Labels (λ x. refl) c.read_sized_list-in-3.result c.map-in-3.result c.read_sized_list-in-3.ensures.reads c.map-in-3.ensures.cases }

pub returns-in-4 : goal.returns-in-4
returns-in-4 c = record { reads = kind_mapped c.in_ok-id.id c.args.cursor.now c.byte_of.new.self c.read_sized_list-in-4.new.cursor c.in_ok-id.ensures.reads types_kind c.in-4.is all_naming_parts subsection_parts subsections.Types (λ x. refl) c.read_sized_list-in-4.result c.map-in-4.result c.read_sized_list-in-4.ensures.reads c.map-in-4.ensures.cases }

pub returns-in-5 : goal.returns-in-5
returns-in-5 c = record { reads = kind_mapped c.in_ok-id.id c.args.cursor.now c.byte_of.new.self c.read_sized_list-in-5.new.cursor c.in_ok-id.ensures.reads tables_kind c.in-5.is all_naming_parts subsection_parts subsections.Tables (λ x. refl) c.read_sized_list-in-5.result c.map-in-5.result c.read_sized_list-in-5.ensures.reads c.map-in-5.ensures.cases }

pub returns-in-6 : goal.returns-in-6
returns-in-6 c = record { reads = kind_mapped c.in_ok-id.id c.args.cursor.now c.byte_of.new.self c.read_sized_list-in-6.new.cursor c.in_ok-id.ensures.reads memories_kind c.in-6.is all_naming_parts subsection_parts subsections.Memories (λ x. refl) c.read_sized_list-in-6.result c.map-in-6.result c.read_sized_list-in-6.ensures.reads c.map-in-6.ensures.cases }

pub returns-in-7 : goal.returns-in-7
returns-in-7 c = record { reads = kind_mapped c.in_ok-id.id c.args.cursor.now c.byte_of.new.self c.read_sized_list-in-7.new.cursor c.in_ok-id.ensures.reads globals_kind c.in-7.is all_naming_parts subsection_parts subsections.Globals (λ x. refl) c.read_sized_list-in-7.result c.map-in-7.result c.read_sized_list-in-7.ensures.reads c.map-in-7.ensures.cases }

pub returns-in-8 : goal.returns-in-8
returns-in-8 c = record { reads = kind_mapped c.in_ok-id.id c.args.cursor.now c.byte_of.new.self c.read_sized_list-in-8.new.cursor c.in_ok-id.ensures.reads elements_kind c.in-8.is all_naming_parts subsection_parts subsections.Elements (λ x. refl) c.read_sized_list-in-8.result c.map-in-8.result c.read_sized_list-in-8.ensures.reads c.map-in-8.ensures.cases }

pub returns-in-9 : goal.returns-in-9
returns-in-9 c = record { reads = kind_mapped c.in_ok-id.id c.args.cursor.now c.byte_of.new.self c.read_sized_list-in-9.new.cursor c.in_ok-id.ensures.reads data_segments_kind c.in-9.is all_naming_parts subsection_parts subsections.Data (λ x. refl) c.read_sized_list-in-9.result c.map-in-9.result c.read_sized_list-in-9.ensures.reads c.map-in-9.ensures.cases }

pub returns-in-10 : goal.returns-in-10
returns-in-10 c = record { reads = kind_mapped c.in_ok-id.id c.args.cursor.now c.byte_of.new.self c.read_sized_list-in-10.new.cursor c.in_ok-id.ensures.reads fields_kind c.in-10.is all_indirect_parts subsection_parts subsections.Fields (λ x. refl) c.read_sized_list-in-10.result c.map-in-10.result c.read_sized_list-in-10.ensures.reads c.map-in-10.ensures.cases }

pub returns-in-11 : goal.returns-in-11
returns-in-11 c = record { reads = kind_mapped c.in_ok-id.id c.args.cursor.now c.byte_of.new.self c.read_sized_list-in-11.new.cursor c.in_ok-id.ensures.reads tags_kind c.in-11.is all_naming_parts subsection_parts subsections.Tags (λ x. refl) c.read_sized_list-in-11.result c.map-in-11.result c.read_sized_list-in-11.ensures.reads c.map-in-11.ensures.cases }

pub returns-in_err-bytes-in-12-to-255 : goal.returns-in_err-bytes-in-12-to-255
returns-in_err-bytes-in-12-to-255 c =
    let p = err_from_is_err_and c.from_residual-in_err-bytes-in-12-to-255.result c.from_residual-in_err-bytes-in-12-to-255.ensures.1 in
    rw (p.1, p.2) (record { reads = unknown_fault c.in_ok-id.id c.args.cursor.now c.byte_of.new.self c.read_sized_bytes.new.cursor c.in_ok-id.ensures.reads (omega arith) c.in_err-bytes-in-12-to-255.field-0.0 c.in_err-bytes-in-12-to-255.ensures.reads })

pub returns-in_ok-bytes-in-12-to-255 : goal.returns-in_ok-bytes-in-12-to-255
returns-in_ok-bytes-in-12-to-255 c = record { reads = unknown_read c.in_ok-id.id c.args.cursor.now c.byte_of.new.self c.read_sized_bytes.new.cursor c.in_ok-id.ensures.reads (omega arith) c.in_ok-bytes-in-12-to-255.bytes.now c.in_ok-bytes-in-12-to-255.ensures.reads }

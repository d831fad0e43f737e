use Rattle.std.proofs.Common.{arith}
use Rattle.std.proofs.lemmas.Result.{err_from_is_err_and}
use Rattle.wasm_custom_sections.proofs.SubsectionLaws.{no_id_rewritten, kind_rewritten, unknown_rewritten, module_name_kind, functions_kind, locals_kind, labels_kind, types_kind, tables_kind, memories_kind, globals_kind, elements_kind, data_segments_kind, fields_kind, tags_kind}
use Rattle.wasm_custom_sections.proofs.names.rewrite_subsection.Goals as goal

pub returns-in_err-byte_of : goal.returns-in_err-byte_of
returns-in_err-byte_of c =
    let p = err_from_is_err_and c.from_residual.result c.from_residual.ensures.1 in
    rw (p.1, p.2) (record { rewrites = no_id_rewritten c.args.rewriter.now c.byte_of.new.self c.in_err-byte_of.field-0.0 c.in_err-byte_of.ensures })

pub returns-in-0 : goal.returns-in-0
returns-in-0 c = record { rewrites = kind_rewritten module_name_kind c.in_ok-byte_of.field-0 c.in-0.is c.args.rewriter.now c.byte_of.new.self c.rewrite_sized.new.rewriter c.rewrite_sized.result c.in_ok-byte_of.ensures c.rewrite_sized.ensures.rewrites }

pub returns-in-1 : goal.returns-in-1
returns-in-1 c = record { rewrites = kind_rewritten functions_kind c.in_ok-byte_of.field-0 c.in-1.is c.args.rewriter.now c.byte_of.new.self c.rewrite_names.new.rewriter c.rewrite_names.result c.in_ok-byte_of.ensures c.rewrite_names.ensures.rewrites }

pub returns-in-2 : goal.returns-in-2
returns-in-2 c = record { rewrites = kind_rewritten locals_kind c.in_ok-byte_of.field-0 c.in-2.is c.args.rewriter.now c.byte_of.new.self c.rewrite_indirect_names.new.rewriter c.rewrite_indirect_names.result c.in_ok-byte_of.ensures c.rewrite_indirect_names.ensures.rewrites }

pub returns-in-3 : goal.returns-in-3
returns-in-3 c = record { rewrites = kind_rewritten labels_kind c.in_ok-byte_of.field-0 c.in-3.is c.args.rewriter.now c.byte_of.new.self c.rewrite_indirect_names-in-3.new.rewriter c.rewrite_indirect_names-in-3.result c.in_ok-byte_of.ensures c.rewrite_indirect_names-in-3.ensures.rewrites }

pub returns-in-4 : goal.returns-in-4
returns-in-4 c = record { rewrites = kind_rewritten types_kind c.in_ok-byte_of.field-0 c.in-4.is c.args.rewriter.now c.byte_of.new.self c.rewrite_names-in-4.new.rewriter c.rewrite_names-in-4.result c.in_ok-byte_of.ensures c.rewrite_names-in-4.ensures.rewrites }

pub returns-in-5 : goal.returns-in-5
returns-in-5 c = record { rewrites = kind_rewritten tables_kind c.in_ok-byte_of.field-0 c.in-5.is c.args.rewriter.now c.byte_of.new.self c.rewrite_names-in-5.new.rewriter c.rewrite_names-in-5.result c.in_ok-byte_of.ensures c.rewrite_names-in-5.ensures.rewrites }

pub returns-in-6 : goal.returns-in-6
returns-in-6 c = record { rewrites = kind_rewritten memories_kind c.in_ok-byte_of.field-0 c.in-6.is c.args.rewriter.now c.byte_of.new.self c.rewrite_names-in-6.new.rewriter c.rewrite_names-in-6.result c.in_ok-byte_of.ensures c.rewrite_names-in-6.ensures.rewrites }

pub returns-in-7 : goal.returns-in-7
returns-in-7 c = record { rewrites = kind_rewritten globals_kind c.in_ok-byte_of.field-0 c.in-7.is c.args.rewriter.now c.byte_of.new.self c.rewrite_names-in-7.new.rewriter c.rewrite_names-in-7.result c.in_ok-byte_of.ensures c.rewrite_names-in-7.ensures.rewrites }

pub returns-in-8 : goal.returns-in-8
returns-in-8 c = record { rewrites = kind_rewritten elements_kind c.in_ok-byte_of.field-0 c.in-8.is c.args.rewriter.now c.byte_of.new.self c.rewrite_names-in-8.new.rewriter c.rewrite_names-in-8.result c.in_ok-byte_of.ensures c.rewrite_names-in-8.ensures.rewrites }

pub returns-in-9 : goal.returns-in-9
returns-in-9 c = record { rewrites = kind_rewritten data_segments_kind c.in_ok-byte_of.field-0 c.in-9.is c.args.rewriter.now c.byte_of.new.self c.rewrite_names-in-9.new.rewriter c.rewrite_names-in-9.result c.in_ok-byte_of.ensures c.rewrite_names-in-9.ensures.rewrites }

pub returns-in-10 : goal.returns-in-10
returns-in-10 c = record { rewrites = kind_rewritten fields_kind c.in_ok-byte_of.field-0 c.in-10.is c.args.rewriter.now c.byte_of.new.self c.rewrite_indirect_names-in-10.new.rewriter c.rewrite_indirect_names-in-10.result c.in_ok-byte_of.ensures c.rewrite_indirect_names-in-10.ensures.rewrites }

pub returns-in-11 : goal.returns-in-11
returns-in-11 c = record { rewrites = kind_rewritten tags_kind c.in_ok-byte_of.field-0 c.in-11.is c.args.rewriter.now c.byte_of.new.self c.rewrite_names-in-11.new.rewriter c.rewrite_names-in-11.result c.in_ok-byte_of.ensures c.rewrite_names-in-11.ensures.rewrites }

pub returns-in-12-to-255 : goal.returns-in-12-to-255
returns-in-12-to-255 c = record { rewrites = unknown_rewritten c.in_ok-byte_of.field-0 (omega arith) c.args.rewriter.now c.byte_of.new.self c.rewrite_sized-in-12-to-255.new.rewriter c.rewrite_sized-in-12-to-255.result c.in_ok-byte_of.ensures c.rewrite_sized-in-12-to-255.ensures.rewrites }

use Rattle.std.proofs.Common.{◌≡◌, ℕ, Some, refl, subst}
use Rattle.std.proofs.lemmas.Bool.{ne_eqb}
use Rattle.wasm_codec.specs.Rewriter.{rewritten_at}
use Rattle.wasm_codec.specs.formats.Combinators.{u32}
use Rattle.wasm_codec.proofs.InputLaws.{rewriter_gives}
use Rattle.wasm_types.specs.formats.Types.{ref_type}
use Rattle.wasm_sections.proofs.ElementLaws.{type_there, number_of_expressions_there, index_of_expressions_there, expressions_of_table_0, expressions_kept}
use Rattle.wasm_sections.proofs.elements.rewrite_expressions_of_table.Goals.{else-table-eq0-via-then-table-eq0+else-is_funcref, else-table-eq0-via-else-table-eq0}
use Rattle.wasm_sections.proofs.elements.rewrite_expressions_of_table.Goals as goal

pub cut_out-requires : goal.cut_out-requires
cut_out-requires c =
    let named = subst (λ (n : ℕ). rewritten_at u32 c.args.rewriter.now ≡ Some (n, c.u32.new.self)) c.if-table-eq0.true c.in_ok-table.ensures in
    type_there c.args.rewriter.now c.u32.new.self c.rewrite_expr.new.rewriter c.take_ref_type.new.input c.rewrite_list.new.rewriter c.args.mark c.written_len-type_mark.result c.in_ok-ty.ty named c.in_ok-rewrite_expr.ensures.rewrites (rewriter_gives ref_type c.rewrite_expr.new.rewriter c.take_ref_type.new.input c.in_ok-ty.ty c.in_ok-ty.ensures.takes) c.if-is_funcref.ensures c.in_ok-rewrite_list.ensures.rewrites c.written_len-type_mark.ensures

pub cut_out-requires-then-is_funcref : goal.cut_out-requires-then-is_funcref
cut_out-requires-then-is_funcref c =
    let named = subst (λ (n : ℕ). rewritten_at u32 c.args.rewriter.now ≡ Some (n, c.u32.new.self)) c.if-table-eq0.true c.in_ok-table.ensures in
    rw c.cut_out.ensures (number_of_expressions_there c.args.rewriter.now c.u32.new.self c.rewrite_expr.new.rewriter c.take_ref_type.new.input c.rewrite_list.new.rewriter c.args.mark c.written_len-type_mark.result c.in_ok-ty.ty named c.in_ok-rewrite_expr.ensures.rewrites (rewriter_gives ref_type c.rewrite_expr.new.rewriter c.take_ref_type.new.input c.in_ok-ty.ty c.in_ok-ty.ensures.takes) c.if-is_funcref.ensures c.in_ok-rewrite_list.ensures.rewrites c.written_len-type_mark.ensures c.requires)

pub set_byte-requires : goal.set_byte-requires
set_byte-requires c =
    let named = subst (λ (n : ℕ). rewritten_at u32 c.args.rewriter.now ≡ Some (n, c.u32.new.self)) c.if-table-eq0.true c.in_ok-table.ensures in
    rw (c.cut_out-then-is_funcref.ensures, c.cut_out.ensures) (index_of_expressions_there c.args.rewriter.now c.u32.new.self c.rewrite_expr.new.rewriter c.take_ref_type.new.input c.rewrite_list.new.rewriter c.args.mark c.written_len-type_mark.result c.in_ok-ty.ty named c.in_ok-rewrite_expr.ensures.rewrites (rewriter_gives ref_type c.rewrite_expr.new.rewriter c.take_ref_type.new.input c.in_ok-ty.ty c.in_ok-ty.ensures.takes) c.if-is_funcref.ensures c.in_ok-rewrite_list.ensures.rewrites c.written_len-type_mark.ensures c.requires)

pub returns-then-is_funcref : goal.returns-then-is_funcref
returns-then-is_funcref c =
    let named = subst (λ (n : ℕ). rewritten_at u32 c.args.rewriter.now ≡ Some (n, c.u32.new.self)) c.if-table-eq0.true c.in_ok-table.ensures in
    record { rewrites = λ begun number mark. rw (c.set_byte.ensures, c.cut_out-then-is_funcref.ensures, c.cut_out.ensures) (expressions_of_table_0 c.args.rewriter.now c.u32.new.self c.rewrite_expr.new.rewriter c.take_ref_type.new.input c.rewrite_list.new.rewriter c.args.mark c.written_len-type_mark.result c.in_ok-ty.ty named c.in_ok-rewrite_expr.ensures.rewrites (rewriter_gives ref_type c.rewrite_expr.new.rewriter c.take_ref_type.new.input c.in_ok-ty.ty c.in_ok-ty.ensures.takes) c.if-is_funcref.ensures c.in_ok-rewrite_list.ensures.rewrites c.written_len-type_mark.ensures begun number mark) }

pub returns-else-table-eq0 : goal.returns-else-table-eq0
returns-else-table-eq0 c =
    record { rewrites = λ begun number mark. expressions_kept begun c.args.rewriter.now c.u32.new.self c.rewrite_expr.new.rewriter c.take_ref_type.new.input c.rewrite_list.new.rewriter c.in_ok-table.table c.in_ok-ty.ty number c.in_ok-table.ensures c.in_ok-rewrite_expr.ensures.rewrites (rewriter_gives ref_type c.rewrite_expr.new.rewriter c.take_ref_type.new.input c.in_ok-ty.ty c.in_ok-ty.ensures.takes) c.in_ok-rewrite_list.ensures.rewrites (elim c.else-table-eq0.branch [ else-table-eq0-via-then-table-eq0+else-is_funcref w ↦ rw (w.if-table-eq0.true, ← w.if-is_funcref.ensures) refl | else-table-eq0-via-else-table-eq0 w ↦ rw (ne_eqb c.in_ok-table.table 0 w.if-table-eq0.false) refl ]) }

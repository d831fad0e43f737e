use Rattle.std.proofs.Common.{◌≡◌, ℕ, Some, subst}
use Rattle.wasm_codec.specs.Rewriter.{rewritten_at}
use Rattle.wasm_codec.specs.formats.Combinators.{u32}
use Rattle.wasm_sections.proofs.ElementLaws.{kind_there, number_of_functions_there, functions_of_table_0}
use Rattle.wasm_sections.proofs.elements.rewrite_functions_of_table.Goals as goal

pub cut_out-requires : goal.cut_out-requires
cut_out-requires c = kind_there c.args.rewriter.now c.u32.new.self c.rewrite_expr.new.rewriter c.rewrite_functions.new.rewriter c.in_ok-table.table c.args.mark c.written_len-kind_mark.result c.requires c.in_ok-table.ensures c.in_ok-rewrite_expr.ensures.rewrites c.written_len-kind_mark.ensures c.in_ok-rewrite_functions.ensures.rewrites

pub cut_out-requires-then-table-eq0 : goal.cut_out-requires-then-table-eq0
cut_out-requires-then-table-eq0 c = rw c.cut_out.ensures (number_of_functions_there c.args.rewriter.now c.u32.new.self c.rewrite_expr.new.rewriter c.rewrite_functions.new.rewriter c.in_ok-table.table c.args.mark c.written_len-kind_mark.result c.requires c.in_ok-table.ensures c.in_ok-rewrite_expr.ensures.rewrites c.written_len-kind_mark.ensures c.in_ok-rewrite_functions.ensures.rewrites)

pub returns-then-table-eq0 : goal.returns-then-table-eq0
returns-then-table-eq0 c =
    let named = subst (λ (n : ℕ). rewritten_at u32 c.args.rewriter.now ≡ Some (n, c.u32.new.self)) c.if-table-eq0.true c.in_ok-table.ensures in
    record { rewrites = λ begun number mark. rw (c.cut_out-then-table-eq0.ensures, c.cut_out.ensures) (functions_of_table_0 begun c.args.rewriter.now c.u32.new.self c.rewrite_expr.new.rewriter c.rewrite_functions.new.rewriter c.args.mark c.written_len-kind_mark.result number named c.in_ok-rewrite_expr.ensures.rewrites c.in_ok-rewrite_functions.ensures.rewrites mark c.written_len-kind_mark.ensures) }

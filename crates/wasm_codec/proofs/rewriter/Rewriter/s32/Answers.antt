use Rattle.std.proofs.Common.{◌≡◌, ℕ, ℤ, length, SFits, of_z, to_z, w32, ap, ◌∙◌, rules, refl}
use Rattle.std.proofs.lemmas.Int.{to_z-of_z}
use Rattle.wasm_codec.specs.Leb128.{signed_leb128}
use Rattle.std.proofs.lemmas.Result.{err_from_is_err_and}
use Rattle.wasm_codec.proofs.FormatLaws.{Lawful-s32}
use Rattle.wasm_codec.proofs.NumberLaws.{cut_s32}
use Rattle.wasm_codec.proofs.Shortening.{number_read, no_number}
use Rattle.wasm_codec.proofs.rewriter.Rewriter.s32.Goals as goal

by_fit : (z : ℤ) (count : ℕ) → SFits w32 z → count ≡ length (signed_leb128 (to_z w32 (of_z w32 z))) → count ≡ length (signed_leb128 z)
by_fit z count fits e = e ∙ ap (λ (y : ℤ). length (signed_leb128 y)) (to_z-of_z w32 z fits)

pub returns-in_err-value : goal.returns-in_err-value
returns-in_err-value c =
    let p = err_from_is_err_and c.from_residual.result c.from_residual.ensures.1 in
    rw (p.1, p.2) (no_number Lawful-s32 c.args.self.now c.args.self.now c.cursor-cursor.result c.s32.new.self c.in_err-value.field-0.0 c.cursor-cursor.ensures.bytes c.cursor-cursor.ensures.place c.in_err-value.ensures.err c.in_err-value.ensures.reads)

pub overflow_sub-len : goal.overflow_sub-len
overflow_sub-len c = rw c.len.ensures (number_read Lawful-s32 cut_s32 c.args.self.now c.cursor-cursor.result c.in_ok-value.value c.s32.new.self c.is_minimal-minimal.result c.len-left.result (length (signed_leb128 c.in_ok-value.value)) c.cursor-cursor.ensures.bytes c.cursor-cursor.ensures.place c.in_ok-value.ensures.reads c.is_minimal-minimal.ensures c.len-left.ensures refl).left_over

pub returns-then-minimal : goal.returns-then-minimal
returns-then-minimal c =
    let fits : SFits w32 c.in_ok-value.value = search rules in
    rw (c.skip.ensures, c.len.ensures, to_z-of_z w32 c.in_ok-value.value fits) (rw c.if-minimal.true at (number_read Lawful-s32 cut_s32 c.args.self.now c.cursor-cursor.result c.in_ok-value.value c.s32.new.self c.is_minimal-minimal.result c.len-left.result (length (signed_leb128 c.in_ok-value.value)) c.cursor-cursor.ensures.bytes c.cursor-cursor.ensures.place c.in_ok-value.ensures.reads c.is_minimal-minimal.ensures c.len-left.ensures refl).gives)

pub overflow_sub-len-else-minimal : goal.overflow_sub-len-else-minimal
overflow_sub-len-else-minimal c = rw c.len-else-minimal.ensures (number_read Lawful-s32 cut_s32 c.args.self.now c.cursor-cursor.result c.in_ok-value.value c.s32.new.self c.is_minimal-minimal.result c.len-left.result (length (signed_leb128 c.in_ok-value.value)) c.cursor-cursor.ensures.bytes c.cursor-cursor.ensures.place c.in_ok-value.ensures.reads c.is_minimal-minimal.ensures c.len-left.ensures refl).left_over

pub shorten-requires-clause-shorter : goal.shorten-requires-clause-shorter
shorten-requires-clause-shorter c =
    let fits : SFits w32 c.in_ok-value.value = search rules in
    rw c.len-else-minimal.ensures (number_read Lawful-s32 cut_s32 c.args.self.now c.cursor-cursor.result c.in_ok-value.value c.s32.new.self c.is_minimal-minimal.result c.len-left.result c.s32_digit_count.result c.cursor-cursor.ensures.bytes c.cursor-cursor.ensures.place c.in_ok-value.ensures.reads c.is_minimal-minimal.ensures c.len-left.ensures (by_fit c.in_ok-value.value c.s32_digit_count.result fits c.s32_digit_count.ensures.count)).fewer

pub returns-else-minimal : goal.returns-else-minimal
returns-else-minimal c =
    let fits : SFits w32 c.in_ok-value.value = search rules in
    rw (c.shorten.ensures, c.len-else-minimal.ensures, to_z-of_z w32 c.in_ok-value.value fits) (rw c.if-minimal.false at (number_read Lawful-s32 cut_s32 c.args.self.now c.cursor-cursor.result c.in_ok-value.value c.s32.new.self c.is_minimal-minimal.result c.len-left.result c.s32_digit_count.result c.cursor-cursor.ensures.bytes c.cursor-cursor.ensures.place c.in_ok-value.ensures.reads c.is_minimal-minimal.ensures c.len-left.ensures (by_fit c.in_ok-value.value c.s32_digit_count.result fits c.s32_digit_count.ensures.count)).gives)

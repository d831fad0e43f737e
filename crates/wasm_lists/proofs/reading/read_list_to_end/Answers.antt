use Rattle.std.proofs.Common.{◌≡◌, ◌-◌, length, subst, Some, None, arith, ap}
use Rattle.wasm_codec.specs.Outcomes.{IsAfterLongest, IsLongestPrefix}
use Rattle.wasm_codec.proofs.ListRewriting.{longest_from}
use Rattle.wasm_codec.specs.Reading.{FindsAt}
use Rattle.wasm_codec.specs.Lists.{IsListPrefixMinimalIf, ListMinimalIf, list_minimal_if_at}
use Rattle.wasm_codec.proofs.ListLaws.{whole_given, left_unencoded, none_unencoded}
use Rattle.wasm_lists.proofs.reading.read_list_to_end.Goals as goal
use Rattle.wasm_codec.proofs.MinimalIfLaws.{flag}
use Rattle.wasm_codec.specs.Places.{Place}

pub returns-then-len-gt0-clause-unencoded : goal.returns-then-len-gt0-clause-unencoded
returns-then-len-gt0-clause-unencoded g c =
    let finds : FindsAt (ListMinimalIf (flag g.row.STRICT) g.T.Readable.format) (list_minimal_if_at (flag g.row.STRICT) g.T.Readable.format) c.args.bytes.now = rw (← ap (λ (p : Place). p.left) c.new-cursor.ensures) c.in-Ok.ensures.finds in
    let reads : list_minimal_if_at (flag g.row.STRICT) g.T.Readable.format c.args.bytes.now ≡ Some (g.T.Readable.views c.in-Ok.items, c.read_list_minimal_if.new.cursor.left) = rw (← ap (λ (p : Place). p.left) c.new-cursor.ensures) c.in-Ok.ensures.left in
    rw c.refused.ensures.error (left_unencoded c.args.bytes.now c.read_list_minimal_if.new.cursor.left (g.T.Readable.views c.in-Ok.items) finds reads (omega arith))

pub returns-else-len-gt0-clause-given : goal.returns-else-len-gt0-clause-given
returns-else-len-gt0-clause-given g c =
    let finds : FindsAt (ListMinimalIf (flag g.row.STRICT) g.T.Readable.format) (list_minimal_if_at (flag g.row.STRICT) g.T.Readable.format) c.args.bytes.now = rw (← ap (λ (p : Place). p.left) c.new-cursor.ensures) c.in-Ok.ensures.finds in
    let reads : list_minimal_if_at (flag g.row.STRICT) g.T.Readable.format c.args.bytes.now ≡ Some (g.T.Readable.views c.in-Ok.items, c.read_list_minimal_if.new.cursor.left) = rw (← ap (λ (p : Place). p.left) c.new-cursor.ensures) c.in-Ok.ensures.left in
    rw c.into_vec.ensures (whole_given c.args.bytes.now c.read_list_minimal_if.new.cursor.left (g.T.Readable.views c.in-Ok.items) finds reads (omega arith))

pub returns-in-Err-Malformed-clause-unencoded : goal.returns-in-Err-Malformed-clause-unencoded
returns-in-Err-Malformed-clause-unencoded g c =
    let h = rw c.in-Err-Malformed.field-0-is at c.in-Err-Malformed.ensures in
    let finds : FindsAt (ListMinimalIf (flag g.row.STRICT) g.T.Readable.format) (list_minimal_if_at (flag g.row.STRICT) g.T.Readable.format) c.args.bytes.now = rw (← ap (λ (p : Place). p.left) c.new-cursor.ensures) h.finds in
    let reads : list_minimal_if_at (flag g.row.STRICT) g.T.Readable.format c.args.bytes.now ≡ None = rw (← ap (λ (p : Place). p.left) c.new-cursor.ensures) h.left in
    rw c.refused-in-Err-Malformed.ensures.error (none_unencoded c.args.bytes.now finds reads)

pub returns-then-len-gt0-clause-prefix : goal.returns-then-len-gt0-clause-prefix
returns-then-len-gt0-clause-prefix g c =
    let after : IsAfterLongest (IsListPrefixMinimalIf (flag g.row.STRICT) g.T.Readable.format) c.args.bytes.now c.read_list_minimal_if.new.cursor.left = rw (← ap (λ (p : Place). p.left) c.new-cursor.ensures) c.in-Ok.ensures.prefix in
    let at : length c.args.bytes.now - length c.read_list_minimal_if.new.cursor.left ≡ length c.args.bytes.now - c.len-then-len-gt0.result = omega (arith, c.len-then-len-gt0.ensures) in
    rw c.refused.ensures.error (subst (IsLongestPrefix (IsListPrefixMinimalIf (flag g.row.STRICT) g.T.Readable.format) c.args.bytes.now) at (longest_from _ _ _ after))

pub returns-in-Err-Malformed-clause-prefix : goal.returns-in-Err-Malformed-clause-prefix
returns-in-Err-Malformed-clause-prefix g c =
    let h = rw c.in-Err-Malformed.field-0-is at c.in-Err-Malformed.ensures in
    let after : IsAfterLongest (IsListPrefixMinimalIf (flag g.row.STRICT) g.T.Readable.format) c.args.bytes.now c.read_list_minimal_if.new.cursor.left = rw (← ap (λ (p : Place). p.left) c.new-cursor.ensures) h.prefix in
    let at : length c.args.bytes.now - length c.read_list_minimal_if.new.cursor.left ≡ length c.args.bytes.now - c.len-in-Err-Malformed.result = omega (arith, c.len-in-Err-Malformed.ensures) in
    rw c.refused-in-Err-Malformed.ensures.error (subst (IsLongestPrefix (IsListPrefixMinimalIf (flag g.row.STRICT) g.T.Readable.format) c.args.bytes.now) at (longest_from _ _ _ after))

use Rattle.std.proofs.Common.{◌≡◌, true, false, take, rules, arith}
use Rattle.std.specs.Prelude.{is_some}
use Rattle.std.proofs.lemmas.Result.{err_from_is_err_and}
use Rattle.wasm_codec.specs.formats.Grammar.{IsBytes}
use Rattle.wasm_codec.specs.Outcomes.{read_error_of}
use Rattle.wasm_codec.specs.Places.{place}
use Rattle.wasm_codec.specs.formats.Combinators.{minimal_only, u32}
use Rattle.wasm_codec.proofs.ListReading.{IsBytes-from}
use Rattle.wasm_lists.proofs.CheckLaws.{list_taken, refused_counts, refused_prefix, refused_unencoded, no_list, no_list_prefix}
use Rattle.wasm_lists.proofs.checking.check_list_to_end.Goals as goal

pub returns-in-Some-clause-checks : goal.returns-in-Some-clause-checks
returns-in-Some-clause-checks g c =
    let none : is_some ((minimal_only u32).at (place true c.args.bytes.now)) ≡ false = c.in-Some.ensures.some in
    rw c.refused.ensures.error (record { given = tt; prefix = no_list_prefix g.T.Rewritable.format c.args.bytes.now none; unencoded = no_list g.T.Rewritable.format c.args.bytes.now none })

pub returns-in_err-_len-clause-checks : goal.returns-in_err-_len-clause-checks
returns-in_err-_len-clause-checks g c =
    let same : c.as_mut_slice.result.now ≡ c.args.bytes.now = search rules in
    let there : is_some ((minimal_only u32).at (place true c.args.bytes.now)) ≡ true = grind arith in
    let fits : IsBytes c.args.bytes.now = IsBytes-from c.args.bytes.now (λ i. omega (arith, c.type_inv.bytes i)) in
    let p = err_from_is_err_and c.from_residual-in_err-_len.result c.from_residual-in_err-_len.ensures.1 in
    rw (p.1, p.2, ← same) (record {
      given = tt;
      prefix = refused_prefix g.T.Rewritable.format c.as_mut_slice.result.now (read_error_of c.in_err-_len.field-0.0) (rw same fits) (rw same there) c.in_err-_len.ensures.prefix;
      unencoded = refused_unencoded g.T.Rewritable.format c.as_mut_slice.result.now (read_error_of c.in_err-_len.field-0.0) c.in_err-_len.ensures.unencoded;
    })

pub returns-clause-checks : goal.returns-clause-checks
returns-clause-checks g c =
    let same : c.as_mut_slice.result.now ≡ c.args.bytes.now = search rules in
    let there : is_some ((minimal_only u32).at (place true c.args.bytes.now)) ≡ true = grind arith in
    let fits : IsBytes c.args.bytes.now = IsBytes-from c.args.bytes.now (λ i. omega (arith, c.type_inv.bytes i)) in
    record {
      given = rw (← same) (list_taken g.T.Rewritable.format c.as_mut_slice.result.now (take c.in_ok-_len._len c.rewrite_list_to_end.new.bytes) (rw same fits) (rw same there) c.in_ok-_len.ensures.given);
      prefix = tt;
      unencoded = tt;
    }

pub returns-in_err-_len-clause-counts : goal.returns-in_err-_len-clause-counts
returns-in_err-_len-clause-counts g c =
    let same : c.as_mut_slice.result.now ≡ c.args.bytes.now = search rules in
    let there : is_some ((minimal_only u32).at (place true c.args.bytes.now)) ≡ true = grind arith in
    let fits : IsBytes c.args.bytes.now = IsBytes-from c.args.bytes.now (λ i. omega (arith, c.type_inv.bytes i)) in
    let p = err_from_is_err_and c.from_residual-in_err-_len.result c.from_residual-in_err-_len.ensures.1 in
    rw (p.1, p.2, ← same) (refused_counts g.T.Rewritable.format c.as_mut_slice.result.now c.in_err-_len.field-0.0 (rw same fits) (rw same there) c.in_err-_len.ensures.counts)

-- The effects of writes one after another.
use Rattle.std.proofs.Common.{ℕ, ◌+◌, ◌-◌, ◌<◌, ◌≤◌, List, ◌++◌, length, take, drop, sym, ap, ◌∙◌, subst, arith, length-drop, take-append-drop}
use Rattle.std.proofs.Math.Seq.{take-add}
use Rattle.std.proofs.lemmas.List.{take_rest}
use Rattle.std.specs.Prelude.{Option}
use Rattle.std.specs.Io.KnownBytes.{Appends, Keeps}
use Rattle.std.proofs.KnownBytes.{Appends-trans, Appends-kept}
use Rattle.wasm_codec.specs.Streams.{AppendsPrefix}

-- a write of what follows a prefix makes the prefix longer
pub more_written : (a b c : Option (List ℕ)) (bytes : List ℕ) (n m : ℕ) → Appends a b (take n bytes)
    → Appends b c (take m (take (length bytes - n) (drop n bytes))) → Appends a c (take (n + m) bytes)
more_written a b c bytes n m before write =
    let joined = take-add n m bytes ∙ ap (λ rest. take n bytes ++ take m rest) (sym (take_rest bytes n)) in
    subst (Appends a c) (sym joined) (Appends-trans a b c _ _ before write)

-- and leaves it within the bytes
pub still_within : (bytes : List ℕ) (n m : ℕ) → n ≤ length bytes → m ≤ length (take (length bytes - n) (drop n bytes)) → n + m ≤ length bytes
still_within bytes n m within bound = omega (arith, length-drop n bytes, ap length (take_rest bytes n))

-- fewer bytes than all are a prefix
pub prefix_written : (a b : Option (List ℕ)) (bytes : List ℕ) (n : ℕ) → n < length bytes → Appends a b (take n bytes) → AppendsPrefix a b bytes
prefix_written a b bytes n short written = record {
  prefix = take n bytes;
  rest = drop n bytes;
  parts = sym (take-append-drop n bytes);
  left = omega (arith, length-drop n bytes);
  appended = written;
}

-- and still are after a write that failed
pub prefix_kept : (a b c : Option (List ℕ)) (bytes : List ℕ) (n : ℕ) → n < length bytes → Appends a b (take n bytes) → Keeps b c
    → AppendsPrefix a c bytes
prefix_kept a b c bytes n short written kept = prefix_written a c bytes n short (Appends-kept a b c (take n bytes) written kept)

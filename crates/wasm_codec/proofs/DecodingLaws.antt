-- The promises of a call that decodes all bytes follow from those of its implementation, by the law of the format.
use Rattle.std.proofs.Common.{◌≡◌, ◌∙◌, refl, sym, subst, ◌≤◌, ℕ, List, ◌++◌, length, take, Result, Ok, Err, IfOk, ap, arith}
use Rattle.std.proofs.lemmas.List.{take_at}
use Rattle.std.specs.Global.{Vec}
use Rattle.wasm_codec.specs.declared.reader.DecodeError.{DecodeError}
use Rattle.wasm_codec.specs.declared.reader.ReadError.{ReadError}
use Rattle.wasm_codec.specs.declared.reader.ReadError.TheVariants as errors
use Rattle.wasm_codec.specs.declared.reader.cursor.Fault.{Fault}
use Rattle.wasm_codec.specs.declared.reader.cursor.Fault.TheVariants as faults
use Rattle.wasm_codec.specs.formats.Grammar.{Grammar}
use Rattle.wasm_codec.specs.formats.Combinators.{Format}
use Rattle.wasm_codec.specs.Lawful.{IsLawfulBody}
use Rattle.wasm_codec.specs.Outcomes.{as_read, error_of, IsMalformed, IsNormalForm, NeedsNoMemory}
use Rattle.wasm_codec.specs.Decoding.{TakesMinimal, ReadsAll, ChecksAll, RewritesTo, RewritesAll, RewritesInPlace, Decodes, DecodesMinimal, Checks, NormalisesTo, NormalisesInPlace, NormalisesSlice, Normalises}
use Rattle.wasm_codec.proofs.FormatLaws.{not_longer}
use Rattle.wasm_codec.proofs.BodyLaws.{encodes_one}
use Rattle.wasm_codec.proofs.ListReading.{gives_all, gives_bytes, gives_same, gives_normal, gives_itself, was_minimal}

abbrev items_of : Vec ℕ → List ℕ
items_of encoding = encoding.items

-- a fault that isn't `Memory`, in the item that begins at this offset
pub error_is : (fault : Fault) (at : ℕ) → IsMalformed fault → error_of fault at ≡ errors.Refused at
error_is faults.Memory at is = absurd is
error_is (faults.Malformed m) at is = refl

no_longer : {V : Type 0} {F : Format V} → IsLawfulBody F → (bytes : List ℕ) (result : Result (Vec ℕ) ReadError)
    → IfOk result (λ encoding. IsNormalForm F.Encodes F.bytes bytes encoding.items) → IfOk result (λ encoding. length encoding.items ≤ length bytes)
no_longer {F = F} r bytes (Ok encoding) n = omega (arith, not_longer bytes (F.bytes n.value) (r.minimal.least bytes n.value n.encoded), ap (length {A = ℕ}) n.is_minimal)
no_longer r bytes (Err e) n = tt

-- what is in a vector whose slice was rewritten, once it is truncated
pub truncated_items : (new tail after : List ℕ) (all len : ℕ) → all ≡ length new → after ≡ take len (take all (new ++ tail)) → after ≡ take len new
truncated_items new tail after all len whole truncated = truncated ∙ ap (take len) (take_at new tail all (sym whole))

module _ {V : Type 0} {F : Format V} (r : IsLawfulBody F) {IsPrefix : List ℕ → Type 0} (bytes : List ℕ) where
  pub decodes : {X : Type 0} (view : X → V) (result : Result X ReadError) → ReadsAll view F.Encodes IsPrefix bytes result → Decodes view F IsPrefix bytes result
  decodes view result reads = record {
    given = reads.given;
    complete = gives_all (encodes_one r) view bytes result reads.given reads.unencoded;
    prefix = reads.prefix;
    unencoded = reads.unencoded;
    one = encodes_one r bytes;
    minimal = r.minimal.least bytes;
  }

  pub normalises_to : {X : Type 0} (encoding : X → List ℕ) (result : Result X ReadError) → RewritesTo F IsPrefix bytes encoding result → NeedsNoMemory result → NormalisesTo F IsPrefix bytes encoding result
  normalises_to encoding result rewrites memory = record {
    given = rewrites.given;
    complete = gives_bytes (encodes_one r) F.bytes encoding bytes result rewrites.given rewrites.unencoded;
    prefix = rewrites.prefix;
    unencoded = rewrites.unencoded;
    memory = memory;
  }

  pub normalises_in_place : (result : Result (Vec ℕ) ReadError) → RewritesAll F IsPrefix bytes result → NeedsNoMemory result → NormalisesInPlace F IsPrefix bytes result
  normalises_in_place result rewrites memory = normalises_to items_of result rewrites memory

  -- a slice that was rewritten in place
  pub normalises_slice : (new : List ℕ) (result : Result ℕ DecodeError) → IfOk result (λ len. len ≤ length new) → RewritesInPlace F IsPrefix bytes new (as_read result) → NeedsNoMemory (as_read result) → NormalisesSlice F IsPrefix bytes new (as_read result)
  normalises_slice new result len rewrites memory = record { within = within result len; normalises = normalises_to (λ n. take n new) (as_read result) rewrites memory } where
    within : (result : Result ℕ DecodeError) → IfOk result (λ n. n ≤ length new) → IfOk (as_read result) (λ n. n ≤ length new)
    within (Ok n) le = le
    within (Err e) le = tt

  -- a vector that was rewritten in place, and truncated to the length of the encoding
  pub rewritten_vector : (old new tail : List ℕ) (all len : ℕ) (result : Result ℕ ReadError) (given : Vec ℕ) → result ≡ Ok len → old ≡ bytes → all ≡ length new → given.items ≡ take len (take all (new ++ tail))
      → RewritesInPlace F IsPrefix old new result → NormalisesInPlace F IsPrefix bytes (Ok given)
  rewritten_vector old new tail all len result given is same whole truncated rewrites =
      let items = truncated_items new tail given.items all len whole truncated in
      let r : RewritesInPlace F IsPrefix old new (Ok len) = subst (λ (r : Result ℕ ReadError). RewritesInPlace F IsPrefix old new r) is rewrites in
      normalises_in_place (Ok given) (record { given = rw (← same, items) r.given; prefix = tt; unencoded = tt }) tt

  -- one that was refused
  pub refused_vector : (old new : List ℕ) (error : ReadError) (result : Result ℕ ReadError) → result ≡ Err error → old ≡ bytes → RewritesInPlace F IsPrefix old new result → NeedsNoMemory result → NormalisesInPlace F IsPrefix bytes (Err error)
  refused_vector old new error result is same rewrites memory =
      let r : RewritesInPlace F IsPrefix old new (Err error) = subst (λ (r : Result ℕ ReadError). RewritesInPlace F IsPrefix old new r) is rewrites in
      normalises_in_place (Err error) (record { given = tt; prefix = rw (← same) r.prefix; unencoded = rw (← same) r.unencoded }) (subst (λ (r : Result ℕ ReadError). NeedsNoMemory r) is memory)

  module _ {Minimal : Grammar V} (is : TakesMinimal F Minimal) where
    pub decodes_minimal : {X : Type 0} (view : X → V) (result : Result X ReadError) → ReadsAll view Minimal IsPrefix bytes result → DecodesMinimal view F Minimal IsPrefix bytes result
    decodes_minimal view result reads = record {
      given = reads.given;
      complete = gives_all (λ b v w g h. encodes_one r b v w ((is b v).0 g).0 ((is b w).0 h).0) view bytes result reads.given reads.unencoded;
      prefix = reads.prefix;
      unencoded = reads.unencoded;
      one = λ v w g h. encodes_one r bytes v w ((is bytes v).0 g).0 ((is bytes w).0 h).0;
      minimal = is bytes;
    }

    pub checks : (result : Result (Unit {0}) ReadError) → ChecksAll Minimal IsPrefix bytes result → Checks F Minimal IsPrefix bytes result
    checks result c = record { given = c.given; prefix = c.prefix; unencoded = c.unencoded; minimal = is bytes }

    -- a copy of the bytes was rewritten, or there was no memory for it
    pub normalises : (result : Result (Vec ℕ) ReadError) → RewritesAll F IsPrefix bytes result → Normalises F Minimal IsPrefix bytes result
    normalises result rewrites =
        let all = gives_bytes (encodes_one r) F.bytes items_of bytes result rewrites.given rewrites.unencoded in
        record {
          given = rewrites.given;
          complete = all;
          prefix = rewrites.prefix;
          unencoded = rewrites.unencoded;
          one = encodes_one r bytes;
          same = gives_same (encodes_one r) r.minimal items_of bytes result rewrites.given;
          normal = gives_normal (encodes_one r) r.minimal items_of bytes result rewrites.given;
          minimal = r.minimal.least bytes;
          no_longer = no_longer r bytes result rewrites.given;
          stays = λ v g. let m = (is bytes v).0 g in gives_itself items_of bytes (F.bytes v) result m.1 (all v m.0);
          was_minimal = was_minimal F.Encodes Minimal F.bytes items_of bytes result (λ v g e. (is bytes v).1 (g, e)) rewrites.given;
        }

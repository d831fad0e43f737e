-- The promises of a call follow from those of the normaliser or the check that it calls, and from its status.
use Rattle.std.proofs.Common.{◌≡◌, ◌≤◌, ℕ, List, length, take, Result, Ok, Err, inl, inr, refl, sym, subst, arith}
use Rattle.std.specs.Global.{Vec}
use Rattle.wasm_codec.specs.declared.reader.ReadError.{ReadError}
use Rattle.wasm_codec.specs.declared.reader.ReadError.TheVariants as errors
use Rattle.wasm_codec.specs.declared.reader.refusal.Refusal.{Refusal}
use Rattle.wasm_codec.specs.formats.Grammar.{Grammar}
use Rattle.wasm_codec.specs.formats.Combinators.{Format}
use Rattle.wasm_codec.specs.Outcomes.{as_decoded, as_read, IsLongestPrefix, IsNormalForm}
use Rattle.wasm_codec.specs.Decoding.{Checks, ChecksAll, Normalises, NormalisesSlice}
use Rattle.nosgrivel_c.specs.Delivery.{IsAnswer, IsChecked, IsDelivered, IsDelivery, IsJudged, IsRewritten, c_too_long}
use Rattle.nosgrivel_c.specs.Calls.{ChecksNormal, JudgesNormal, RewritesNormal, WritesInPlace, WritesNormal}

-- the longest prefix has the length that was reported
pub at_count : {IsPrefix : List ℕ → Type 0} {input : List ℕ} (at count : ℕ) → count ≡ at → IsLongestPrefix IsPrefix input at → IsLongestPrefix IsPrefix input count
at_count {IsPrefix} {input} at count is longest = subst (λ (len : ℕ). IsLongestPrefix IsPrefix input len) (sym is) longest

module _ {V : Type 0} (Minimal : Grammar V) (IsPrefix : List ℕ → Type 0) (input : List ℕ) where
  pub checks_all : (result : Result (Unit {0}) ReadError) (before count status : ℕ) → ChecksAll Minimal IsPrefix input result → IsChecked result (length input) before count status → ChecksNormal Minimal IsPrefix input before count status
  checks_all (Ok x) before count status c (is, whole) = record {
    normal = λ s. c.given;
    len = λ s. whole;
    refused = λ s. absurd (omega (arith, is, s));
    encodes_none = λ s some. omega (arith, is, s);
    no_memory = λ s. absurd (omega (arith, is, s));
    status = inl is;
  }
  checks_all (Err (errors.Refused at)) before count status c (is, told) = record {
    normal = λ s. absurd (omega (arith, is, s));
    len = λ s. absurd (omega (arith, is, s));
    refused = λ s. at_count at count told c.prefix;
    encodes_none = λ s some. c.unencoded some.0 some.1;
    no_memory = λ s. absurd (omega (arith, is, s));
    status = inr (inl is);
  }
  checks_all (Err errors.Memory) before count status c (is, told) = record {
    normal = λ s. absurd (omega (arith, is, s));
    len = λ s. absurd (omega (arith, is, s));
    refused = λ s. absurd (omega (arith, is, s));
    encodes_none = λ s some. omega (arith, is, s);
    no_memory = λ s. told;
    status = inr (inr is);
  }

module _ {V : Type 0} (F : Format V) (IsPrefix : List ℕ → Type 0) (old new : List ℕ) where
  pub rewrites_normal : (result : Result ℕ Refusal) (count status : ℕ) → NormalisesSlice F IsPrefix old new (as_read (as_decoded result)) → IsRewritten result count status → RewritesNormal F IsPrefix old new count status
  rewrites_normal (Ok len) count status n (is, told) = record {
    within = λ s. subst (λ (k : ℕ). k ≤ length new) (sym told) n.within;
    written = λ s. subst (λ (k : ℕ). IsNormalForm F.Encodes F.bytes old (take k new)) (sym told) n.normalises.given;
    refused = λ s. absurd (omega (arith, is, s));
    encodes_none = λ s some. omega (arith, is, s);
    status = inl is;
  }
  rewrites_normal (Err refusal) count status n (is, told) = record {
    within = λ s. absurd (omega (arith, is, s));
    written = λ s. absurd (omega (arith, is, s));
    refused = λ s. at_count refusal.at count told n.normalises.prefix;
    encodes_none = λ s some. n.normalises.unencoded some.0 some.1;
    status = inr is;
  }

module _ {V : Type 0} (F : Format V) (Minimal : Grammar V) (IsPrefix : List ℕ → Type 0) (input : List ℕ) where
  pub writes_normal : (result : Result (Vec ℕ) ReadError) (old new : List ℕ) (before count status : ℕ) → Normalises F Minimal IsPrefix input result → IsDelivered (λ encoding. encoding.items) result old new before count status
      → WritesNormal F IsPrefix input old new before count status
  writes_normal (Ok encoding) old new before count status n (len, inl (is, fits, output)) = record {
    written = λ s. record { encoding = encoding.items; normal = n.given; len = len; fits = fits; output = output };
    refused = λ s. absurd (omega (arith, is, s));
    encodes_none = λ s some. omega (arith, is, s);
    too_long = λ s. absurd (omega (arith, is, s));
    room = λ le s. omega (arith, is, s);
    unchanged = λ s. absurd (s is);
    no_memory = λ s. absurd (omega (arith, is, s));
    status = inl is;
  }
  writes_normal (Ok encoding) old new before count status n (len, inr (is, long, same)) = record {
    written = λ s. absurd (omega (arith, is, s));
    refused = λ s. absurd (omega (arith, is, s));
    encodes_none = λ s some. omega (arith, is, s);
    too_long = λ s. record { encoding = encoding.items; normal = n.given; len = len; long = long };
    room = λ le s. omega (arith, le, long, len, n.no_longer);
    unchanged = λ s. same;
    no_memory = λ s. absurd (omega (arith, is, s));
    status = inr (inr (inr is));
  }
  writes_normal (Err (errors.Refused at)) old new before count status n ((is, told), same) = record {
    written = λ s. absurd (omega (arith, is, s));
    refused = λ s. at_count at count told n.prefix;
    encodes_none = λ s some. n.unencoded some.0 some.1;
    too_long = λ s. absurd (omega (arith, is, s));
    room = λ le s. omega (arith, is, s);
    unchanged = λ s. same;
    no_memory = λ s. absurd (omega (arith, is, s));
    status = inr (inl is);
  }
  writes_normal (Err errors.Memory) old new before count status n ((is, told), same) = record {
    written = λ s. absurd (omega (arith, is, s));
    refused = λ s. absurd (omega (arith, is, s));
    encodes_none = λ s some. omega (arith, is, s);
    too_long = λ s. absurd (omega (arith, is, s));
    room = λ le s. omega (arith, is, s);
    unchanged = λ s. same;
    no_memory = λ s. told;
    status = inr (inr (inl is));
  }

  fits : (status : ℕ) → IsDelivery status → (status ≡ c_too_long → ⊥) → IsAnswer status
  fits status (inl normal) never = inl normal
  fits status (inr (inl refused)) never = inr (inl refused)
  fits status (inr (inr (inl memory))) never = inr (inr memory)
  fits status (inr (inr (inr long))) never = absurd (never long)

  pub writes_in_place : (result : Result (Vec ℕ) ReadError) (new : List ℕ) (before count status : ℕ) → Normalises F Minimal IsPrefix input result → IsDelivered (λ encoding. encoding.items) result input new before count status
      → WritesInPlace F IsPrefix input new before count status
  writes_in_place result new before count status n delivered =
      let writes = writes_normal result input new before count status n delivered in
      record {
        written = writes.written;
        refused = writes.refused;
        encodes_none = writes.encodes_none;
        unchanged = writes.unchanged;
        no_memory = writes.no_memory;
        status = fits status writes.status (writes.room (omega arith));
      }

  pub judges_normal : (result : Result (Vec ℕ) ReadError) (before count status : ℕ) → Normalises F Minimal IsPrefix input result → IsJudged (λ encoding. encoding.items) result (length input) before count status
      → JudgesNormal F IsPrefix input before count status
  judges_normal (Ok encoding) before count status n (len, inl (is, whole)) = record {
    normal = λ s. elim (n.minimal n.given.value n.given.encoded) [
      | inl same ↦ record { value = n.given.value; encoded = n.given.encoded; is_minimal = same }
      | inr longer ↦ absurd (omega (arith, longer, len, whole, subst (λ (t : List ℕ). length encoding.items ≡ length t) n.given.is_minimal refl))
    ];
    len = λ s. whole;
    shorter = λ s. absurd (omega (arith, is, s));
    refused = λ s. absurd (omega (arith, is, s));
    encodes_none = λ s some. omega (arith, is, s);
    no_memory = λ s. absurd (omega (arith, is, s));
    status = inl is;
  }
  judges_normal (Ok encoding) before count status n (len, inr (is, other)) = record {
    normal = λ s. absurd (omega (arith, is, s));
    len = λ s. absurd (omega (arith, is, s));
    shorter = λ s. record { encoding = encoding.items; normal = n.given; len = len; short = omega (arith, len, other, n.no_longer) };
    refused = λ s. absurd (omega (arith, is, s));
    encodes_none = λ s some. omega (arith, is, s);
    no_memory = λ s. absurd (omega (arith, is, s));
    status = inr (inr (inl is));
  }
  judges_normal (Err (errors.Refused at)) before count status n (is, told) = record {
    normal = λ s. absurd (omega (arith, is, s));
    len = λ s. absurd (omega (arith, is, s));
    shorter = λ s. absurd (omega (arith, is, s));
    refused = λ s. at_count at count told n.prefix;
    encodes_none = λ s some. n.unencoded some.0 some.1;
    no_memory = λ s. absurd (omega (arith, is, s));
    status = inr (inl is);
  }
  judges_normal (Err errors.Memory) before count status n (is, told) = record {
    normal = λ s. absurd (omega (arith, is, s));
    len = λ s. absurd (omega (arith, is, s));
    shorter = λ s. absurd (omega (arith, is, s));
    refused = λ s. absurd (omega (arith, is, s));
    encodes_none = λ s some. omega (arith, is, s);
    no_memory = λ s. told;
    status = inr (inr (inr is));
  }

  pub checks_normal : (result : Result (Unit {0}) ReadError) (before count status : ℕ) → Checks F Minimal IsPrefix input result → IsChecked result (length input) before count status → ChecksNormal Minimal IsPrefix input before count status
  checks_normal result before count status c answered =
      checks_all Minimal IsPrefix input result before count status (record { given = c.given; prefix = c.prefix; unencoded = c.unencoded }) answered

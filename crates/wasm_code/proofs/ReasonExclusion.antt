-- If one reason says that a body ends at the offset, and another that it has bytes there, a refusal never makes both
-- true.
use Rattle.std.proofs.Common.{◌≡◌, ◌∙◌, ◌<◌, ◌+◌, ℕ, Bool, true, false, List, Option, Some, sym, arith}
use Rattle.wasm_codec.proofs.Laws.{some_is}
use Rattle.wasm_codec.specs.declared.reader.malformed.Reason.{Reason}
use Rattle.wasm_codec.specs.declared.reader.malformed.Reason.TheVariants as reasons
use Rattle.wasm_code.specs.Reasons.{Holds, HoldsAt, HoldsInside, end_of}

-- The reason says that the body ends at the offset.
abbrev pub is_at_end : Reason → Bool
is_at_end (reasons.UnexpectedEnd part) = true
is_at_end reasons.MissingEnd = true
is_at_end r = false

-- The reason is about bytes of the body at the offset.
abbrev pub is_before_end : Reason → Bool
is_before_end (reasons.UnexpectedEnd part) = false
is_before_end reasons.MissingEnd = false
is_before_end (reasons.SizeTooLarge size left) = false
is_before_end (reasons.InvalidUtf8 at) = false
is_before_end (reasons.NotAModule first len) = false
is_before_end (reasons.UnsupportedVersion version) = false
is_before_end reasons.Unexplained = false
is_before_end r = true

ends_there : (strict : Bool) (r : Reason) (body : Option ℕ) (offset : ℕ) (bytes : List ℕ) → is_at_end r ≡ true → Holds strict r body offset bytes → end_of body bytes ≡ Some offset
ends_there strict (reasons.UnexpectedEnd part) body offset bytes is holds = holds
ends_there strict reasons.MissingEnd body offset bytes is holds = holds
ends_there strict r body offset bytes is holds = absurd cc

-- The body goes on after the offset.
pub record GoesOn (body : Option ℕ) (offset : ℕ) (bytes : List ℕ) : Type 0 where
  pub end : ℕ
  pub end_is : end_of body bytes ≡ Some end
  pub before : offset < end

inside : (r : Reason) (body : Option ℕ) (offset : ℕ) (bytes : List ℕ) → HoldsInside (HoldsAt r) body offset bytes → GoesOn body offset bytes
inside r body offset bytes h = record { end = h.1.end; end_is = h.1.end_is; before = h.1.before }

goes_on : (strict : Bool) (r : Reason) (body : Option ℕ) (offset : ℕ) (bytes : List ℕ) → is_before_end r ≡ true → Holds strict r body offset bytes → GoesOn body offset bytes
goes_on strict (reasons.TrailingBytes count) body offset bytes is holds = record { end = offset + count; end_is = holds.1; before = omega (arith, holds.0) }
goes_on strict (reasons.NotMinimal count minimal) body offset bytes is (strictly, some, fewer, lies) = record { end = lies.end; end_is = lies.end_is; before = omega (arith, fewer, lies.within) }
goes_on strict reasons.LongForm body offset bytes is (strictly, lies) = record { end = lies.end; end_is = lies.end_is; before = omega (arith, lies.within) }
goes_on strict (reasons.NumberTooLong most) body offset bytes is holds = inside (reasons.NumberTooLong most) body offset bytes holds
goes_on strict (reasons.NumberOutOfRange part) body offset bytes is holds = inside (reasons.NumberOutOfRange part) body offset bytes holds
goes_on strict (reasons.InvalidByte part b) body offset bytes is holds = inside (reasons.InvalidByte part b) body offset bytes holds
goes_on strict (reasons.InvalidNumber part n) body offset bytes is holds = inside (reasons.InvalidNumber part n) body offset bytes holds
goes_on strict (reasons.UnknownOpcode n) body offset bytes is holds = inside (reasons.UnknownOpcode n) body offset bytes holds
goes_on strict (reasons.UnknownPrefixedOpcode p n) body offset bytes is holds = inside (reasons.UnknownPrefixedOpcode p n) body offset bytes holds
goes_on strict (reasons.InvalidAlignment flags) body offset bytes is holds = inside (reasons.InvalidAlignment flags) body offset bytes holds
goes_on strict reasons.StrayDelimiter body offset bytes is holds = inside reasons.StrayDelimiter body offset bytes holds
goes_on strict (reasons.UnknownSection id) body offset bytes is holds = inside (reasons.UnknownSection id) body offset bytes holds
goes_on strict r body offset bytes is holds = absurd cc

pub apart : (strict : Bool) (r q : Reason) (body : Option ℕ) (offset : ℕ) (bytes : List ℕ) → is_at_end r ≡ true → is_before_end q ≡ true → Holds strict r body offset bytes → Holds strict q body offset bytes → ⊥
apart strict r q body offset bytes ends goes r_holds q_holds = absurd (omega (arith, some_is offset more.end (sym (ends_there strict r body offset bytes ends r_holds) ∙ more.end_is), more.before)) where
  more : GoesOn body offset bytes
  more = goes_on strict q body offset bytes goes q_holds

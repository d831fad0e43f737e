-- A check of a reason finds what the reason says.
use Rattle.std.proofs.Common.{◌≡◌, ◌<◌, ◌≤◌, ◌+◌, ◌||◌, ℕ, Bool, zero, suc, refl, [], ◌∷◌, nat_lt, arith, true, false, List, length, take, drop, Option, Some, None, Ok, nat_eq, subst, sym, ◌∙◌, ap}
use Rattle.std.proofs.lemmas.Bool.{eqb-true, eq-eqb, lt-ltb, le-ltb}
use Rattle.std.proofs.Math.Seq.{take-length}
use Rattle.std.specs.Str.{IsUtf8}
use Rattle.std.specs.Str.Lossy.{utf8_valid_len}
use Rattle.wasm_codec.proofs.Laws.{some_is}
use Rattle.wasm_codec.specs.Inputs.{Took}
use Rattle.wasm_codec.specs.Places.{Place, place, Reads, u32_at}
use Rattle.wasm_codec.specs.Rewriter.{rewriting, no_rest}
use Rattle.wasm_codec.specs.formats.Bodies.{body_at}
use Rattle.wasm_instructions.specs.declared.table.opcode.Opcode.{Opcode}
use Rattle.wasm_instructions.specs.formats.Opcodes.{opcode_kind}
use Rattle.wasm_instructions.specs.formats.Instructions.{opcode}
use Rattle.wasm_code.specs.Reasons.{BeginsWithU32, HasBody, IsUnknownOpcode, IsNoName, ends_within, prefix_byte}

-- among no bytes, none ends a number
pub none_of_none : (most : ℕ) (bytes : List ℕ) → most ≡ 0 → false ≡ ends_within most bytes
unfolding ends_within
none_of_none zero bytes none = refl
none_of_none (suc most) bytes none = absurd (omega (arith, none))

pub none_in_none : (most : ℕ) (bytes : List ℕ) → length bytes ≡ 0 → false ≡ ends_within most bytes
unfolding ends_within
none_in_none zero bytes none = refl
none_in_none (suc most) [] none = refl
none_in_none (suc most) (b ∷ bytes) none = absurd (omega (arith, none))

-- one of the first bytes ends a number if the first does or one after it
first_of : (more b : ℕ) (bytes rest : List ℕ) → bytes ≡ b ∷ rest → (nat_lt b 128 || ends_within more rest) ≡ ends_within (suc more) bytes
unfolding ends_within
first_of more b bytes rest parts = rw parts refl

-- the first byte ends a number
pub here : (most b : ℕ) (bytes rest : List ℕ) → 0 < most → bytes ≡ b ∷ rest → b < 128 → nat_lt b 128 ≡ ends_within most bytes
here zero b bytes rest some parts ends = absurd (omega (arith, some))
here (suc more) b bytes rest some parts ends = lt-ltb b 128 ends ∙ (ap (λ (t : Bool). t || ends_within more rest) (sym (lt-ltb b 128 ends)) ∙ first_of more b bytes rest parts)

-- the first byte doesn't
pub later : (most less b : ℕ) (bytes rest : List ℕ) → less + 1 ≡ most → bytes ≡ b ∷ rest → 128 ≤ b → ends_within less rest ≡ ends_within most bytes
later zero less b bytes rest more parts ends = absurd (omega (arith, more))
later (suc more) less b bytes rest same parts ends = ap (λ (n : ℕ). ends_within n rest) (omega (arith, same)) ∙ (ap (λ (t : Bool). t || ends_within more rest) (sym (le-ltb b 128 ends)) ∙ first_of more b bytes rest parts)

-- the number that is read is the one at the start
pub begins : (read number : ℕ) (bytes : List ℕ) (here after : Place) → here ≡ place true bytes → Reads u32_at here after (Ok read) → nat_eq read number ≡ true → BeginsWithU32 number bytes
begins read number bytes here after is reads same = record {
  after = after;
  is_read = subst (λ (n : ℕ). u32_at (place true bytes) ≡ Some (n, after)) (eqb-true read number same) (subst (λ (p : Place). u32_at p ≡ Some (read, after)) is reads);
}

-- an opcode that is read and isn't in the table is unknown
pub unknown : (op : Opcode) (prefix : Option ℕ) (number : ℕ) (bytes : List ℕ) (here after : Place) → here ≡ place true bytes → Took false opcode (rewriting [] here no_rest) (rewriting [] after no_rest) op → prefix_byte op.prefix ≡ prefix → op.number ≡ number → opcode_kind op ≡ None → IsUnknownOpcode prefix number bytes
unknown op prefix number bytes here after is reads before numbered none = record {
  op = op;
  after = after;
  is_read = subst (λ (p : Place). opcode.at p ≡ Some (op, after)) is reads.read;
  prefix_is = before;
  number_is = numbered;
  unknown = none;
}

-- a body that is taken whole is the body that is read
pub found_body : (start size left : ℕ) (bytes body whole : List ℕ) (here after : Place) → here ≡ place true (drop start bytes) → body_at here ≡ Some (whole, after) → size ≡ length whole → left ≡ length after.left → body ≡ take size whole → HasBody start bytes body left
found_body start size left bytes body whole here after is reads sized lefts taken = record {
  after = after;
  is_read = subst (λ (p : Place). body_at p ≡ Some (whole, after)) is reads ∙ ap (λ (b : List ℕ). Some (b, after)) (sym (taken ∙ ap (λ (n : ℕ). take n whole) sized ∙ take-length whole));
  left_is = sym lefts;
}

-- a body that isn't UTF-8 is no name
pub no_name : (at offset start left : ℕ) (body : Option ℕ) (bytes name : List ℕ) → body ≡ Some start → HasBody start bytes name left → (IsUtf8 name → ⊥) → at ≡ utf8_valid_len name → nat_eq (offset + (length name + left)) (length bytes + at) ≡ true → IsNoName at offset body bytes
no_name at offset start left body bytes name starts_at has not_utf8 valid sum = record {
  start = start;
  name = name;
  after = has.after;
  body_is = starts_at;
  is_read = has.is_read;
  no_name = not_utf8;
  valid = valid;
  offset_is = ap (λ (n : ℕ). offset + (length name + n)) has.left_is ∙ eqb-true (offset + (length name + left)) (length bytes + at) sum;
}

-- the name that isn't UTF-8 is the body
pub is_that_body : (at offset start left : ℕ) (body : Option ℕ) (bytes name : List ℕ) → body ≡ Some start → HasBody start bytes name left → (invalid : IsNoName at offset body bytes) → (invalid.name ≡ name) × (length invalid.after.left ≡ left)
is_that_body at offset start left body bytes name starts_at has invalid = (ap (λ (x : List ℕ × Place). x.0) same, ap (λ (x : List ℕ × Place). length x.1.left) same ∙ has.left_is) where
  starts : invalid.start ≡ start
  starts = some_is invalid.start start (sym invalid.body_is ∙ starts_at)

  same : ◌≡◌ {A = List ℕ × Place} (invalid.name, invalid.after) (name, has.after)
  same = some_is (invalid.name, invalid.after) (name, has.after) (sym invalid.is_read ∙ (ap (λ (n : ℕ). body_at (place true (drop n bytes))) starts ∙ has.is_read))

pub is_utf8_body : (at offset start left : ℕ) (body : Option ℕ) (bytes name : List ℕ) → body ≡ Some start → HasBody start bytes name left → IsUtf8 name → IsNoName at offset body bytes → ⊥
is_utf8_body at offset start left body bytes name starts_at has utf8 invalid = invalid.no_name (subst IsUtf8 (sym (is_that_body at offset start left body bytes name starts_at has invalid).0) utf8)

pub is_valid_len : (at offset start left : ℕ) (body : Option ℕ) (bytes name : List ℕ) → body ≡ Some start → HasBody start bytes name left → IsNoName at offset body bytes → at ≡ utf8_valid_len name
is_valid_len at offset start left body bytes name starts_at has invalid = invalid.valid ∙ ap utf8_valid_len (is_that_body at offset start left body bytes name starts_at has invalid).0

pub sums_up : (at offset start left : ℕ) (body : Option ℕ) (bytes name : List ℕ) → body ≡ Some start → HasBody start bytes name left → IsNoName at offset body bytes → nat_eq (offset + (length name + left)) (length bytes + at) ≡ true
sums_up at offset start left body bytes name starts_at has invalid = eq-eqb _ _ (ap (λ (n : List ℕ). offset + (length n + left)) (sym that.0) ∙ (ap (λ (n : ℕ). offset + (length invalid.name + n)) (sym that.1) ∙ invalid.offset_is)) where
  that : (invalid.name ≡ name) × (length invalid.after.left ≡ left)
  that = is_that_body at offset start left body bytes name starts_at has invalid

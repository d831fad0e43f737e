-- The bytes that are written for code bodies.
use Rattle.std.proofs.Common.{◌≡◌, ℕ, suc, ◌-◌, ◌^◌, ◌<◌, ◌≤◌, List, [], ◌∷◌, ◌++◌, length, take, drop, append_assoc, length-append, Result, Ok, Err, refl, ap, subst, ◌∙◌, inr, arith, sym}
use Rattle.std.specs.Prelude.{OnOk}
use Rattle.std.specs.List.{All, AllByRecursion}
use Rattle.wasm_codec.specs.Encoding.{IsRefusal, IsCount, IsMinimal, OnlyTooLong, IsMinimalOrLonger}
use Rattle.wasm_codec.specs.formats.Numbers.{EncodesU32}
use Rattle.wasm_codec.specs.Leb128.{unsigned_leb128}
use Rattle.wasm_codec.specs.formats.Combinators.{items, u32}
use Rattle.wasm_types.specs.declared.types.value.ValType.{ValType}
use Rattle.wasm_types.specs.formats.Types.{val_type}
use Rattle.wasm_types.proofs.TypeFormatLaws.{Lawful-val-type}
use Rattle.wasm_lists.proofs.WrittenLists.{in_range_of}
use Rattle.wasm_codec.proofs.NumberLaws.{written}
use Rattle.wasm_codec.proofs.FormatLaws.{Lawful-u32, joined_in_range}
use Rattle.wasm_instructions.specs.Appending.{CountedCall}
use Rattle.wasm_instructions.specs.formats.Instructions.{Instruction, Instructions, instruction, instructions_bytes}
use Rattle.wasm_instructions.proofs.CallRanges.{is_counted}
use Rattle.wasm_instructions.proofs.InstructionFormatLaws.{Lawful-instruction}
use Rattle.wasm_code.specs.declared.code.CodeBody.{CodeBody}
use Rattle.wasm_code.specs.CodeCounts.{CountedBody, func_bytes}
use Rattle.wasm_code.specs.formats.CodeBodies.{local_group, code_body}
use Rattle.wasm_code.proofs.CodeBodyLaws.{Lawful-code_body}
use Rattle.std.proofs.lemmas.List.{take_at, drop_at}
use Rattle.wasm_codec.specs.declared.encode.EncodeError.TheVariants as errors

-- the size of what was written after some bytes was put before it
pub size_put : (before encoding after new : List ℕ) (start : ℕ) → start ≡ length before → after ≡ before ++ encoding → new ≡ take start after ++ (unsigned_leb128 (length after - start) ++ drop start after) → new ≡ before ++ (unsigned_leb128 (length encoding) ++ encoding)
size_put before encoding after new start at is e =
    let prefix : take start after ≡ before = ap (take start) is ∙ take_at before encoding start (sym at) in
    let back : drop start after ≡ encoding = ap (drop start) is ∙ drop_at before encoding start (sym at) in
    let size : length after - start ≡ length encoding = omega (arith, ap (length {A = ℕ}) is, length-append before encoding, at) in
    e ∙ rw (prefix, back, size) refl

-- what holds anyway holds of an `Ok`
pub OnOk-any : {T E : Type 0} {P : Type 0} (r : Result T E) → P → OnOk r P
OnOk-any (Ok x) p = p
OnOk-any (Err e) p = tt

all_counted : (calls : List Instruction) → AllByRecursion instruction.InRange calls → AllByRecursion CountedCall calls
all_counted [] fits = tt
all_counted (call ∷ calls) fits = (is_counted call fits.0, all_counted calls fits.1)

pub calls_in_range : (calls : List Instruction) → Instructions (instructions_bytes calls) calls → AllByRecursion instruction.InRange calls
calls_in_range calls encoded = joined_in_range Lawful-instruction (instructions_bytes calls) calls encoded

-- calls that were written can be
pub calls_counted : (calls : List Instruction) → Instructions (instructions_bytes calls) calls → AllByRecursion CountedCall calls
calls_counted calls encoded = all_counted calls (calls_in_range calls encoded)

-- the locals and the instructions were appended, one after the other
pub record FuncWritten (b : CodeBody) (old after : List ℕ) (start : ℕ) : Type 0 where
  pub at : start ≡ length old
  pub is : after ≡ (old ++ (items local_group).bytes b.locals) ++ instructions_bytes b.calls

pub func_parts : (b : CodeBody) (locals : List (ℕ × ValType)) (calls : List Instruction) (old mid after : List ℕ) (start : ℕ) → start ≡ length old → locals ≡ b.locals → calls ≡ b.calls → mid ≡ old ++ (items local_group).bytes locals → after ≡ mid ++ instructions_bytes calls → FuncWritten b old after start
func_parts b locals calls old mid after start at these those first second = record { at = at; is = second ∙ rw (first, these, those) refl }

func_written : (b : CodeBody) (old after : List ℕ) (start : ℕ) → FuncWritten b old after start → after ≡ old ++ func_bytes b
func_written b old after start w = w.is ∙ append_assoc old ((items local_group).bytes b.locals) (instructions_bytes b.calls)

func_length : (b : CodeBody) (old after : List ℕ) (start : ℕ) → FuncWritten b old after start → length after - start ≡ length (func_bytes b)
func_length b old after start w = omega (arith, ap (length {A = ℕ}) (func_written b old after start w), length-append old (func_bytes b), w.at)

pub body_written : {T E : Type 0} (r : Result T E) (b : CodeBody) (old after new : List ℕ) (start : ℕ) → FuncWritten b old after start → OnOk r (new ≡ take start after ++ (unsigned_leb128 (length after - start) ++ drop start after)) → OnOk r (new ≡ old ++ code_body.bytes b)
unfolding code_body
body_written (Ok x) b old after new start w e = size_put old (func_bytes b) after new start w.at (func_written b old after start w) e
body_written (Err e) b old after new start w h = tt

pub body_counted : (b : CodeBody) (locals : List (ℕ × ValType)) (calls : List Instruction) (old after : List ℕ) (start : ℕ) → FuncWritten b old after start → locals ≡ b.locals → calls ≡ b.calls → IsCount (length locals) → Instructions (instructions_bytes calls) calls → length after - start < 2 ^ 32 → CountedBody b
body_counted b locals calls old after start w these those few encoded size =
    (subst (λ l. IsCount (length l)) these few, subst (λ l. AllByRecursion CountedCall l) those (calls_counted calls encoded), subst (λ n. n < 2 ^ 32) (func_length b old after start w) size)

pub body_too_long : (b : CodeBody) (old after : List ℕ) (start : ℕ) → FuncWritten b old after start → 2 ^ 32 ≤ length after - start → IsRefusal CountedBody OnlyTooLong b errors.TooLong
body_too_long b old after start w long = inr (λ can. let few : length (func_bytes b) < 2 ^ 32 = can.2 in omega (arith, few, long, func_length b old after start w), refl)

-- locals that were written are in range
pub locals_in_range : (locals : List (ℕ × ValType)) → All (λ (p : ℕ × ValType). IsMinimal EncodesU32 unsigned_leb128 p.0 × IsMinimal val_type.Encodes val_type.bytes p.1) locals → AllByRecursion local_group.InRange locals
locals_in_range [] h = tt
locals_in_range (p ∷ ps) h =
    let first : IsMinimal EncodesU32 unsigned_leb128 p.0 × IsMinimal val_type.Encodes val_type.bytes p.1 = h 0 p (omega arith) in
    ((in_range_of u32 Lawful-u32 p.0 first.0, in_range_of val_type Lawful-val-type p.1 first.1), locals_in_range ps (λ k d lt. h (suc k) d (omega (arith, lt))))

-- a body that can be written is in range, as its locals and instructions are
pub in_range_by_parts : (b : CodeBody) → CountedBody b → AllByRecursion local_group.InRange b.locals → AllByRecursion instruction.InRange b.calls → code_body.InRange b
unfolding code_body
in_range_by_parts b can locals calls = ((((can.0, locals), calls), can.2), refl)

-- a body that was written is in range
pub body_in_range : {T E : Type 0} (r : Result T E) (b : CodeBody) (locals : List (ℕ × ValType)) (calls : List Instruction) → locals ≡ b.locals → calls ≡ b.calls → OnOk r (CountedBody b) → All (λ (p : ℕ × ValType). IsMinimal EncodesU32 unsigned_leb128 p.0 × IsMinimal val_type.Encodes val_type.bytes p.1) locals → Instructions (instructions_bytes calls) calls → OnOk r (code_body.InRange b)
body_in_range (Ok x) b locals calls these those can written encoded = in_range_by_parts b can
    (subst (λ (l : List (ℕ × ValType)). AllByRecursion local_group.InRange l) these (locals_in_range locals written))
    (subst (λ (l : List Instruction). AllByRecursion instruction.InRange l) those (calls_in_range calls encoded))
body_in_range (Err e) b locals calls these those can written encoded = tt

pub body_is_written : {T E : Type 0} (r : Result T E) (b : CodeBody) → OnOk r (code_body.InRange b) → OnOk r (IsMinimal code_body.Encodes code_body.bytes b)
body_is_written (Ok x) b fits = written Lawful-code_body.minimal b fits
body_is_written (Err e) b fits = tt

pub body_encodes : {T E : Type 0} (r : Result T E) (b : CodeBody) → OnOk r (code_body.InRange b) → OnOk r (code_body.Encodes (code_body.bytes b) b)
body_encodes (Ok x) b fits = Lawful-code_body.minimal.encodes b fits
body_encodes (Err e) b fits = tt

pub body_minimal : (b : CodeBody) (bytes : List ℕ) → code_body.Encodes bytes b → IsMinimalOrLonger bytes (code_body.bytes b)
body_minimal b bytes g = Lawful-code_body.minimal.least bytes b g

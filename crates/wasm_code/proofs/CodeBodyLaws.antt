-- The laws of code bodies and of bodies of code sections.
use Rattle.std.proofs.Common.{◌≡◌, ℕ, suc, ◌↔◌, ◌+◌, ◌<◌, ◌≤◌, true, false, ltb, List, length, take, drop, get_or, refl, [], ◌∷◌, Some, None, Err, ap, sym, subst, ◌∙◌, arith}
use Rattle.std.proofs.lemmas.Bool.{le-ltb}
use Rattle.wasm_codec.specs.formats.Grammar.{IsBytes, TakesBytes}
use Rattle.wasm_codec.specs.Lawful.{IsLawful, IsLawfulBody}
use Rattle.wasm_codec.proofs.MinimalIfLaws.{list_minimal_only}
use Rattle.wasm_codec.proofs.FormatLaws.{Lawful-u32, Lawful-both, Lawful-made, Lawful-items, takes_bytes}
use Rattle.wasm_codec.proofs.BodyLaws.{Lawful-sized, Lawful-to-end, Lawful-then-body}
use Rattle.wasm_types.proofs.TypeFormatLaws.{Lawful-val-type}
use Rattle.wasm_instructions.proofs.InstructionFormatLaws.{Lawful-instruction, instruction_takes}
use Rattle.wasm_code.specs.declared.code.CodeBody.{CodeBody}
use Rattle.wasm_code.specs.formats.CodeBodies.{local_group, function_code, code_body_of, code_body_parts, code_body, code_section_body, MinimalCodeSectionBody}
use Rattle.wasm_types.specs.declared.types.value.ValType.{ValType}
use Rattle.wasm_instructions.specs.formats.Instructions.{Instruction, instruction}
use Rattle.wasm_codec.specs.declared.reader.cursor.Fault.{Fault}
use Rattle.wasm_codec.specs.Places.{Place, place, Reads, times_at, u32_at}
use Rattle.wasm_codec.specs.Scanning.{BeginsShort, Scans}
use Rattle.wasm_codec.specs.declared.rewriter.scan.Scanned.TheVariants as scanned
use Rattle.wasm_codec.proofs.NumberReading.{u32_one}
use Rattle.wasm_codec.proofs.RewriterLaws.{run_read}
use Rattle.wasm_codec.specs.formats.Combinators.{Format, items}
use Rattle.wasm_codec.specs.formats.Bodies.{body_at, to_end, sized}
use Rattle.wasm_codec.proofs.SizedLaws.{fault_of_part, made_read, made_none, both_read, first_none, second_none, sized_read, size_none, sized_none}

pub Lawful-local-group : IsLawful local_group
Lawful-local-group = Lawful-both Lawful-u32 Lawful-val-type

pub local_group_takes : TakesBytes local_group.Encodes
local_group_takes = takes_bytes Lawful-local-group refl

pub Lawful-function-code : IsLawfulBody function_code
Lawful-function-code = Lawful-then-body (Lawful-items Lawful-local-group) (λ groups. Lawful-to-end Lawful-instruction instruction_takes)

pub Lawful-code_body : IsLawful code_body
unfolding code_body
Lawful-code_body = Lawful-made code_body_of code_body_parts (λ p. refl) (Lawful-sized Lawful-function-code)

pub code_body_takes : TakesBytes code_body.Encodes
unfolding code_body
code_body_takes = takes_bytes Lawful-code_body refl

pub Lawful-code-section-body : IsLawful code_section_body
unfolding code_section_body
Lawful-code-section-body = Lawful-items Lawful-code_body

-- the encodings by minimal ones alone are the minimal encodings
pub is_minimal_code : (bytes : List ℕ) (bodies : List CodeBody) → MinimalCodeSectionBody bytes bodies ↔ (code_section_body.Encodes bytes bodies × (bytes ≡ code_section_body.bytes bodies))
unfolding code_section_body
is_minimal_code = list_minimal_only Lawful-code_body

-- the laws of code bodies, for functions that name them
pub ruleset code_laws = (Lawful-code_body, code_body_takes, Lawful-function-code)

-- the size and the bytes after it, as the code has them
pub record CodeAt (old outer code : Place) : Type 0 where
  pub body : body_at old ≡ Some (code.left, outer)
  pub tells : code ≡ place outer.minimal code.left

no_items : {A : Type 0} (F : Format A) (p mid : Place) → u32_at p ≡ Some (0, mid) → (items F).at p ≡ Some ([], mid)
unfolding times_at
no_items F p mid none = rw none refl

pub code_read : (old outer code mid end : Place) (locals : List (ℕ × ValType)) (calls : List Instruction) → CodeAt old outer code → (items local_group).at code ≡ Some (locals, mid) → (to_end instruction).at mid ≡ Some (calls, end) → end.left ≡ []
    → code_body.at old ≡ Some (code_body_of (locals, calls), place end.minimal outer.left)
unfolding code_body
code_read old outer code mid end locals calls at l i none =
    let inside = ap function_code.at (sym at.tells) ∙ both_read (items local_group) (to_end instruction) code mid end locals calls l i in
    made_read code_body_of code_body_parts (sized function_code) old (place end.minimal outer.left) (locals, calls) (sized_read function_code old outer end code.left (locals, calls) at.body inside none)

pub no_size : (old new last : Place) (fault : Fault) → Reads body_at old new (Err fault) → Reads code_body.at old last (Err fault)
unfolding code_body
no_size old new last fault none = fault_of_part body_at code_body.at old new old last fault none (λ e. made_none code_body_of code_body_parts (sized function_code) old (size_none function_code old e))

no_code : (old outer code : Place) → CodeAt old outer code → function_code.at code ≡ None → code_body.at old ≡ None
unfolding code_body
no_code old outer code at e = made_none code_body_of code_body_parts (sized function_code) old (sized_none function_code old outer code.left at.body (ap function_code.at (sym at.tells) ∙ e))

pub no_locals : (old outer code new last : Place) (fault : Fault) → CodeAt old outer code → Reads (items local_group).at code new (Err fault) → Reads code_body.at old last (Err fault)
no_locals old outer code new last fault at none = fault_of_part (items local_group).at code_body.at code new old last fault none (λ e. no_code old outer code at (first_none (items local_group) (to_end instruction) code e))

pub no_calls : (old outer code mid new last : Place) (locals : List (ℕ × ValType)) (fault : Fault) → CodeAt old outer code → (items local_group).at code ≡ Some (locals, mid) → Reads (to_end instruction).at mid new (Err fault) → Reads code_body.at old last (Err fault)
no_calls old outer code mid new last locals fault at l none = fault_of_part (to_end instruction).at code_body.at mid new old last fault none (λ e. no_code old outer code at (second_none (items local_group) (to_end instruction) code mid locals l e))

-- a body without locals, whose instructions are a run
pub short_body : (calls : List ℕ) (n : ℕ) → IsBytes ((suc n) ∷ 0 ∷ calls) → suc n < 128 → BeginsShort instruction calls n → Scans code_body ((suc n) ∷ 0 ∷ calls) (Some (scanned.Minimal (suc (suc n))))
short_body calls n fits lt begins =
    let outer = place true (drop n calls) in
    let code = place true (0 ∷ take n calls) in
    let run = run_read Lawful-instruction instruction_takes calls n fits.1.1 begins in
    let size : u32_at (place true ((suc n) ∷ 0 ∷ calls)) ≡ Some (suc n, place true (0 ∷ calls)) = u32_one (place true ((suc n) ∷ 0 ∷ calls)) (place true (0 ∷ calls)) (suc n) lt refl in
    let enough : ltb (length (0 ∷ calls)) (suc n) ≡ false = le-ltb _ _ (omega (arith, begins.within)) in
    let body : body_at (place true ((suc n) ∷ 0 ∷ calls)) ≡ Some (0 ∷ take n calls, outer) = rw (size, enough) refl in
    let none : u32_at code ≡ Some (0, place true (take n calls)) = u32_one code (place true (take n calls)) 0 (omega arith) refl in
    let at : CodeAt (place true ((suc n) ∷ 0 ∷ calls)) outer code = record { body = body; tells = refl } in
    let read = code_read (place true ((suc n) ∷ 0 ∷ calls)) outer code (place true (take n calls)) (place true []) [] run.values at (no_items local_group code (place true (take n calls)) none) run.read refl in
    (omega (arith, begins.within), (code_body_of ([], run.values), read))

-- the same, as code finds it
pub short_found : (bytes calls : List ℕ) (n : ℕ) → IsBytes bytes → 2 ≤ length bytes → get_or bytes 0 0 ≡ suc n → get_or bytes 1 0 ≡ 0 → suc n < 128 → calls ≡ drop 2 bytes → BeginsShort instruction calls n → Scans code_body bytes (Some (scanned.Minimal (2 + n)))
short_found [] calls n fits some first second lt is begins = absurd (omega (arith, some))
short_found (a ∷ []) calls n fits some first second lt is begins = absurd (omega (arith, some))
short_found (a ∷ b ∷ bytes) calls n fits some first second lt is begins =
    let are : a ∷ b ∷ bytes ≡ (suc n) ∷ 0 ∷ calls = rw (first, second, is) refl in
    let count : 2 + n ≡ suc (suc n) = omega arith in
    subst (λ (l : List ℕ). Scans code_body l (Some (scanned.Minimal (2 + n)))) (sym are) (rw count (short_body calls n (subst IsBytes are fits) lt begins))

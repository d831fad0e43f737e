-- Code without bytes that may be the opcode of an instruction that names a data segment has no such instruction.
use Rattle.std.proofs.Common.{◌≡◌, ◌∙◌, ℕ, ◌+◌, ◌-◌, ◌*◌, ◌%◌, ltb, ◌<◌, ◌≤◌, ◌==◌, ◌||◌, cond, Bool, true, false, List, [], ◌∷◌, ◌++◌, length, get_or, take, drop, Option, Some, None, refl, sym, ap, subst, append_assoc, length-append, inl, inr, arith}
use Rattle.std.proofs.lemmas.Bool.{eqb-false, ne_eqb, ltb-true, ltb-false}
use Rattle.std.proofs.lemmas.List.{get_or_append_left, get_or-append-add, get_or-take, get_or-drop, length-take, length-drop}
use Rattle.std.specs.List.{position_from}
use Rattle.std.proofs.lemmas.Iterator.Adapters.{position_from-zero}
use Rattle.wasm_codec.specs.formats.Grammar.{Joined}
use Rattle.wasm_codec.specs.formats.Numbers.{EncodesU32, unsigned}
use Rattle.wasm_codec.specs.Places.{Place, place}
use Rattle.wasm_codec.specs.formats.Bodies.{body_at}
use Rattle.wasm_codec.proofs.BodyLaws.{body_complete}
use Rattle.wasm_codec.proofs.FormatLaws.{takes_bytes}
use Rattle.wasm_instructions.proofs.InstructionFormatLaws.{Lawful-opcode}
use Rattle.wasm_instructions.specs.declared.table.opcode.Opcode.{Opcode}
use Rattle.wasm_instructions.specs.formats.Instructions.{Instruction, instruction, opcode}
use Rattle.wasm_instructions.specs.formats.Opcodes.{without_prefix, after_fb, after_fc, after_fe}
use Rattle.wasm_code.specs.declared.code.CodeBody.{CodeBody}
use Rattle.wasm_code.specs.formats.CodeBodies.{code_body, function_code}
use Rattle.wasm_modules.specs.DataOpcodes.{may_name_data, Clear, ClearWithin, HasNoPrefix}
use Rattle.wasm_modules.specs.IndexSpaces.{one, two, neither, lies_in}
use Rattle.wasm_modules.specs.ModuleOrder.{first_data_use, is_data, names_data, op_names_data}
use Rattle.wasm_modules.specs.declared.indices.spaces.IndexSpace.{IndexSpace}
use Rattle.wasm_modules.specs.declared.indices.spaces.IndexSpace.TheVariants as spaces

-- ---- opcodes

-- such an opcode begins nowhere in the bytes
abbrev pub NoneIn : List ℕ → Type 0
NoneIn bytes = (k : ℕ) → k + 1 < length bytes → may_name_data (get_or bytes k 0) (get_or bytes (k + 1) 0) ≡ false

pub none_in_first : (first rest : List ℕ) → NoneIn (first ++ rest) → NoneIn first
none_in_first first rest none k lt =
    rw (← get_or_append_left first rest 0 k (omega (arith, lt)), ← get_or_append_left first rest 0 (k + 1) lt) (none k (omega (arith, lt, length-append first rest)))

pub none_in_rest : (first rest : List ℕ) → NoneIn (first ++ rest) → NoneIn rest
none_in_rest first rest none k lt =
    let here = get_or-append-add first rest k 0 in
    let next = get_or-append-add first rest (k + 1) 0 in
    let all = none (length first + k) (omega (arith, lt, length-append first rest)) in
    let same : length first + k + 1 ≡ length first + (k + 1) = omega arith in
    rw (← here, ← next, ← same) all

-- the first digit tells a number below 128
first_digit : (digits : List ℕ) (n : ℕ) → EncodesU32 digits n → (d : ℕ) × (rest : List ℕ) × (digits ≡ d ∷ rest) × (n ≡ d % 128 + 128 * unsigned rest)
unfolding EncodesU32
first_digit [] n g = absurd g.0
first_digit (d ∷ rest) n g = (d, rest, refl, sym g.2.0)

-- a number that differs in its first digit
differs : (d n low more : ℕ) → n ≡ d % 128 + 128 * more → low < 128 → (d % 128 == low) ≡ false → (n == low) ≡ false
differs d n low more is small other = ne_eqb n low (λ e. eqb-false (d % 128) low other (omega (arith, is, small, e)))

neither_of : (a b : Bool) → a || b ≡ false → (a ≡ false) × (b ≡ false)
neither_of true b none = absurd cc
neither_of false b none = (refl, none)

abbrev Spaces : Type 0
Spaces = Option IndexSpace × Option IndexSpace

-- neither index is that of a data segment
abbrev pub no_data : Spaces → Bool
no_data s = is_data s.0 || is_data s.1

fb_others : (a b c : Bool) → no_data (cond a (two spaces.Types spaces.Elements) (cond b (two spaces.Types spaces.Types) (cond c (one spaces.Types) neither))) ≡ false
fb_others true b c = refl
fb_others false true c = refl
fb_others false false true = refl
fb_others false false false = refl

fb_names_none : (n : ℕ) → (n == 0x09) ≡ false → (n == 0x12) ≡ false → op_names_data (after_fb n) ≡ false
fb_names_none n no9 no12 = rw (no9, no12) (fb_others (n == 0x0a || n == 0x13) (n == 0x11) (lies_in 0x00 0x0e n || n == 0x10 || lies_in 0x20 0x22 n))

fc_others : (a b c d e f : Bool) → no_data (cond a (two spaces.Memories spaces.Memories) (cond b (one spaces.Memories) (cond c (two spaces.Elements spaces.Tables) (cond d (one spaces.Elements) (cond e (two spaces.Tables spaces.Tables) (cond f (one spaces.Tables) neither)))))) ≡ false
fc_others true b c d e f = refl
fc_others false true c d e f = refl
fc_others false false true d e f = refl
fc_others false false false true e f = refl
fc_others false false false false true f = refl
fc_others false false false false false true = refl
fc_others false false false false false false = refl

fc_names_none : (n : ℕ) → (n == 0x08) ≡ false → (n == 0x09) ≡ false → op_names_data (after_fc n) ≡ false
fc_names_none n no8 no9 = rw (no8, no9) (fc_others (n == 0x0a) (n == 0x0b || n == 0x12) (n == 0x0c) (n == 0x0d) (n == 0x0e) (lies_in 0x0f 0x11 n))

fe_others : (a b c : Bool) → no_data (cond a (one spaces.Globals) (cond b (one spaces.Tables) (cond c (one spaces.Types) neither))) ≡ false
fe_others true b c = refl
fe_others false true c = refl
fe_others false false true = refl
fe_others false false false = refl

fe_names_none : (n : ℕ) → op_names_data (after_fe n) ≡ false
fe_names_none n = fe_others (lies_in 0x4f 0x57 n) (lies_in 0x58 0x5b n) (lies_in 0x5c 0x71 n)

byte_others : (a b c d e f g h i : Bool) → no_data (cond a (one spaces.Functions) (cond b (two spaces.Types spaces.Tables) (cond c (one spaces.Globals) (cond d (one spaces.Tables) (cond e (one spaces.Memories) (cond f (one spaces.Tags) (cond g (one spaces.Types) (cond h (two spaces.Types spaces.Types) (cond i (two spaces.Types spaces.Tags) neither))))))))) ≡ false
byte_others true b c d e f g h i = refl
byte_others false true c d e f g h i = refl
byte_others false false true d e f g h i = refl
byte_others false false false true e f g h i = refl
byte_others false false false false true f g h i = refl
byte_others false false false false false true g h i = refl
byte_others false false false false false false true h i = refl
byte_others false false false false false false false true i = refl
byte_others false false false false false false false false true = refl
byte_others false false false false false false false false false = refl

byte_names_none : (n : ℕ) → op_names_data (without_prefix n) ≡ false
byte_names_none n = byte_others (n == 0x10 || n == 0x12 || n == 0xd2) (n == 0x11 || n == 0x13) (n == 0x23 || n == 0x24) (n == 0x25 || n == 0x26) (n == 0x3f || n == 0x40) (n == 0x07 || n == 0x08 || n == 0xe2) (n == 0x14 || n == 0x15 || n == 0xe0 || n == 0xe3 || n == 0xe5) (n == 0xe1) (n == 0xe4 || n == 0xe6)

-- the first two bytes
first_two : (first second : ℕ) (rest : List ℕ) → NoneIn (first ∷ second ∷ rest) → may_name_data first second ≡ false
first_two first second rest none = none 0 (omega arith)

op_names_none : (bytes : List ℕ) (op : Opcode) → opcode.Encodes bytes op → NoneIn bytes → op_names_data op ≡ false
unfolding opcode
op_names_none bytes op (inl g) none =
    let digit = first_digit g.0 g.2.0 g.2.1 in
    let all : bytes ≡ 0xfb ∷ digit.0 ∷ digit.1 = g.1 ∙ ap (λ (l : List ℕ). 0xfb ∷ l) digit.2 in
    let no = neither_of (digit.0 % 128 == 0x09) (digit.0 % 128 == 0x12) (first_two 0xfb digit.0 digit.1 (subst NoneIn all none)) in
    subst (λ (o : Opcode). op_names_data o ≡ false) g.2.2 (fb_names_none g.2.0 (differs digit.0 g.2.0 0x09 (unsigned digit.1) digit.3 (omega arith) no.0) (differs digit.0 g.2.0 0x12 (unsigned digit.1) digit.3 (omega arith) no.1))
op_names_none bytes op (inr (inl g)) none =
    let digit = first_digit g.0 g.2.0 g.2.1 in
    let all : bytes ≡ 0xfc ∷ digit.0 ∷ digit.1 = g.1 ∙ ap (λ (l : List ℕ). 0xfc ∷ l) digit.2 in
    let no = neither_of (digit.0 % 128 == 0x08) (digit.0 % 128 == 0x09) (first_two 0xfc digit.0 digit.1 (subst NoneIn all none)) in
    subst (λ (o : Opcode). op_names_data o ≡ false) g.2.2 (fc_names_none g.2.0 (differs digit.0 g.2.0 0x08 (unsigned digit.1) digit.3 (omega arith) no.0) (differs digit.0 g.2.0 0x09 (unsigned digit.1) digit.3 (omega arith) no.1))
op_names_none bytes op (inr (inr (inl g))) none = subst (λ (o : Opcode). op_names_data o ≡ false) g.2.2 refl
op_names_none bytes op (inr (inr (inr (inl g)))) none = subst (λ (o : Opcode). op_names_data o ≡ false) g.2.2 (fe_names_none g.2.0)
op_names_none bytes op (inr (inr (inr (inr g)))) none = subst (λ (o : Opcode). op_names_data o ≡ false) g.2 (byte_names_none g.0)

-- ---- instructions

-- an instruction names no data if no such opcode begins in its bytes, since its own is first
call_names_none : (bytes : List ℕ) (i : Instruction) → instruction.Encodes bytes i → NoneIn bytes → names_data i ≡ false
unfolding instruction
call_names_none bytes i g none =
    let parts = g.1 in
    let first = none_in_first parts.0 parts.1 (subst NoneIn parts.2 none) in
    subst (λ (j : Instruction). names_data j ≡ false) g.2 (op_names_none parts.0 g.0.0 parts.3 first)

-- an opcode without a prefix
plain_op : (bytes : List ℕ) (op : Opcode) (first : ℕ) → opcode.Encodes bytes op → get_or bytes 0 0 ≡ first → first < 0xfb → op_names_data op ≡ false
unfolding opcode
plain_op bytes op first (inl g) is small = absurd (omega (arith, small, is, ap (λ (l : List ℕ). get_or l 0 0) g.1))
plain_op bytes op first (inr (inl g)) is small = absurd (omega (arith, small, is, ap (λ (l : List ℕ). get_or l 0 0) g.1))
plain_op bytes op first (inr (inr (inl g))) is small = absurd (omega (arith, small, is, ap (λ (l : List ℕ). get_or l 0 0) g.1))
plain_op bytes op first (inr (inr (inr (inl g)))) is small = absurd (omega (arith, small, is, ap (λ (l : List ℕ). get_or l 0 0) g.1))
plain_op bytes op first (inr (inr (inr (inr g)))) is small = subst (λ (o : Opcode). op_names_data o ≡ false) g.2 (byte_names_none g.0)

first_of_both : (first rest : List ℕ) → 0 < length first → get_or (first ++ rest) 0 0 ≡ get_or first 0 0
first_of_both first rest some = get_or_append_left first rest 0 0 some

opcode_byte : (bytes : List ℕ) (op : Opcode) → opcode.Encodes bytes op → 0 < length bytes
unfolding opcode
opcode_byte [] op g = absurd (takes_bytes Lawful-opcode refl op g)
opcode_byte (b ∷ bytes) op g = omega arith

-- an instruction whose first byte is no prefix names no data segment
pub plain_names_none : (prefix back : List ℕ) (i : Instruction) (first : ℕ) → instruction.Encodes prefix i → get_or (prefix ++ back) 0 0 ≡ first → first < 0xfb → names_data i ≡ false
unfolding instruction
plain_names_none prefix back i first g is small =
    let s = g.1 in
    let some = opcode_byte s.0 g.0.0 s.3 in
    let all : prefix ++ back ≡ s.0 ++ (s.1 ++ back) = ap (λ (l : List ℕ). l ++ back) s.2 ∙ append_assoc s.0 s.1 back in
    let head : get_or s.0 0 0 ≡ first = sym (first_of_both s.0 (s.1 ++ back) some) ∙ ap (λ (l : List ℕ). get_or l 0 0) (sym all) ∙ is in
    subst (λ (j : Instruction). names_data j ≡ false) g.2 (plain_op s.0 g.0.0 first s.3 head small)

none_from : (from : ℕ) (bytes : List ℕ) (calls : List Instruction) → Joined instruction.Encodes bytes calls → NoneIn bytes → position_from names_data from calls ≡ None
none_from from bytes [] g none = refl
none_from from bytes (i ∷ calls) g none =
    let both = subst NoneIn g.2 none in
    rw (call_names_none g.0 i g.3 (none_in_first g.0 g.1 both)) (none_from (from + 1) g.1 calls g.4 (none_in_rest g.0 g.1 both))

-- code of a function in which such an opcode begins nowhere
pub code_names_none : (bytes : List ℕ) (body : CodeBody) → function_code.Encodes bytes (body.locals, body.calls) → NoneIn bytes → first_data_use body ≡ None
code_names_none bytes body g none = position_from-zero names_data body.calls ∙ none_from 0 g.1 body.calls g.4 (none_in_rest g.0 g.1 (subst NoneIn g.2 none))

-- ---- the bodies of a code section

-- the place begins with a body: its size, its code, then these bytes
pub record BodyAt (old : Place) (back : List ℕ) (body : CodeBody) : Type 0 where
  pub size : List ℕ
  pub code : List ℕ
  pub parts : old.left ≡ size ++ (code ++ back)
  pub encodes : function_code.Encodes code (body.locals, body.calls)
  pub after : Place
  pub read : body_at old ≡ Some (code, after)
  pub left : after.left ≡ back

pub body_is_at : (old : Place) (prefix back : List ℕ) (body : CodeBody) → old.left ≡ prefix ++ back → code_body.Encodes prefix body → BodyAt old back body
unfolding code_body
body_is_at old prefix back body parts g =
    let s = g.1 in
    let all : old.left ≡ (s.0 ++ s.1) ++ back = parts ∙ ap (λ (l : List ℕ). l ++ back) s.2 in
    record {
      size = s.0;
      code = s.1;
      parts = all ∙ append_assoc s.0 s.1 back;
      encodes = subst (λ (b : CodeBody). function_code.Encodes s.1 (b.locals, b.calls)) g.2 s.4;
      after = _;
      read = ap (λ (l : List ℕ). body_at (place old.minimal l)) all ∙ body_complete s.0 s.1 back old.minimal s.3;
      left = refl;
    }

-- what is clear before a place is clear in the code that lies there
pub clear_code : (left size code back : List ℕ) (ahead : ℕ) → left ≡ size ++ (code ++ back) → ahead ≤ length back → Clear ahead left → NoneIn code
clear_code left size code back ahead parts le clear k lt =
    let lengths = length-append size (code ++ back) in
    let inner = length-append code back in
    let all : length left ≡ length size + (length code + length back) = ap (length {A = ℕ}) parts ∙ omega (arith, lengths, inner) in
    let here : get_or left (length size + k) 0 ≡ get_or code k 0 = ap (λ (l : List ℕ). get_or l (length size + k) 0) parts ∙ get_or-append-add size (code ++ back) k 0 ∙ get_or_append_left code back 0 k (omega (arith, lt)) in
    let next : get_or left (length size + k + 1) 0 ≡ get_or code (k + 1) 0 = ap (λ (n : ℕ). get_or left n 0) (omega arith) ∙ ap (λ (l : List ℕ). get_or l (length size + (k + 1)) 0) parts ∙ get_or-append-add size (code ++ back) (k + 1) 0 ∙ get_or_append_left code back 0 (k + 1) lt in
    rw (← here, ← next) (clear (length size + k) (omega (arith, all, lt, le)) (omega (arith, all, lt)))

-- and in the rest after it
pub clear_rest : (left first rest : List ℕ) (ahead : ℕ) → left ≡ first ++ rest → Clear ahead left → Clear ahead rest
clear_rest left first rest ahead parts clear k lt more =
    let lengths = length-append first rest in
    let all : length left ≡ length first + length rest = ap (length {A = ℕ}) parts ∙ lengths in
    let here : get_or left (length first + k) 0 ≡ get_or rest k 0 = ap (λ (l : List ℕ). get_or l (length first + k) 0) parts ∙ get_or-append-add first rest k 0 in
    let next : get_or left (length first + k + 1) 0 ≡ get_or rest (k + 1) 0 = ap (λ (n : ℕ). get_or left n 0) (omega arith) ∙ ap (λ (l : List ℕ). get_or l (length first + (k + 1)) 0) parts ∙ get_or-append-add first rest (k + 1) 0 in
    rw (← here, ← next) (clear (length first + k) (omega (arith, all, lt)) (omega (arith, all, more)))

-- ---- the search

other_prefix : (prefix number : ℕ) → (prefix ≡ 0xfb → ⊥) → (prefix ≡ 0xfc → ⊥) → may_name_data prefix number ≡ false
other_prefix prefix number not_fb not_fc = rw (ne_eqb prefix 0xfb not_fb, ne_eqb prefix 0xfc not_fc) refl

-- the next block has no prefix
pub clear_block : (bytes : List ℕ) (at end : ℕ) → at ≤ end → end ≤ length bytes → ClearWithin bytes 0 at → HasNoPrefix (take (end - at) (drop at bytes)) → ClearWithin bytes 0 end
clear_block bytes at end le within so_far none k from lt more = by (ltb k at) refl where
  by : (t : Bool) → ltb k at ≡ t → may_name_data (get_or bytes k 0) (get_or bytes (k + 1) 0) ≡ false
  by true before = so_far k from (ltb-true k at before) more
  by false after =
      let ge : at ≤ k = ltb-false k at after in
      let inside : k - at < length (take (end - at) (drop at bytes)) = omega (arith, length-take (end - at) (drop at bytes), length-drop at bytes, ge, lt, within) in
      let same : get_or (take (end - at) (drop at bytes)) (k - at) 0 ≡ get_or bytes k 0 =
      get_or-take (end - at) (drop at bytes) (k - at) 0 (omega (arith, ge, lt)) ∙ get_or-drop at bytes (k - at) 0 ∙ ap (λ (n : ℕ). get_or bytes n 0) (omega (arith, ge)) in
      let no = none (k - at) inside in
      other_prefix (get_or bytes k 0) (get_or bytes (k + 1) 0) (λ is. no.0 (same ∙ is)) (λ is. no.1 (same ∙ is))

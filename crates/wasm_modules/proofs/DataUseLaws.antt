-- The search for the first instruction that names a data segment: in the code of a function, and in a code section.
use Rattle.std.proofs.Common.{◌≡◌, ◌∙◌, ℕ, ◌+◌, ◌-◌, ◌<◌, ◌≤◌, true, false, List, [], ◌∷◌, ◌++◌, length, take, drop, slice_get, position, Option, Some, None, Ok, Err, refl, sym, ap, subst, append_assoc, length-append, arith, get_or}
use Rattle.std.specs.List.{position_from}
use Rattle.std.proofs.lemmas.Iterator.Adapters.{position_from-zero}
use Rattle.std.proofs.lemmas.List.{append-nil, take_at, drop_at, take-append-drop, length-drop, length-take, get_or-take}
use Rattle.std.proofs.lemmas.List.Elements.{All-push}
use Rattle.wasm_codec.specs.Outcomes.{IsMalformed}
use Rattle.wasm_codec.specs.Places.{Place, place, Reads, u32_at}
use Rattle.wasm_codec.specs.declared.reader.cursor.Fault.{Fault}
use Rattle.wasm_codec.specs.declared.reader.cursor.Fault.TheVariants as faults
use Rattle.wasm_codec.specs.formats.Bodies.{body_at}
use Rattle.wasm_codec.specs.formats.Combinators.{items}
use Rattle.wasm_codec.specs.formats.Grammar.{IsBytes, Joined}
use Rattle.wasm_codec.proofs.FormatLaws.{Lawful-u32}
use Rattle.wasm_codec.proofs.BodyLaws.{IsBytes-prefix}
use Rattle.wasm_codec.proofs.Laws.{some_is}
use Rattle.wasm_types.specs.declared.types.value.ValType.{ValType}
use Rattle.wasm_instructions.specs.declared.table.opcode.Opcode.{Opcode}
use Rattle.wasm_instructions.specs.formats.Instructions.{Instruction, instruction}
use Rattle.wasm_instructions.proofs.InstructionFormatLaws.{Lawful-instruction, instruction_takes}
use Rattle.wasm_code.specs.declared.code.CodeBody.{CodeBody}
use Rattle.wasm_code.specs.formats.CodeBodies.{code_body, function_code, local_group}
use Rattle.wasm_modules.specs.DataOpcodes.{Clear}
use Rattle.wasm_modules.specs.ModuleOrder.{first_data_use, names_data, op_names_data, NameNoData, TellsDataUse}
use Rattle.wasm_modules.specs.declared.order.data_uses.InstructionPlace.{InstructionPlace}
use Rattle.wasm_modules.specs.Skipping.{Skips, SkipsPlain}
use Rattle.wasm_modules.proofs.DataOpcodeLaws.{plain_names_none, BodyAt, body_is_at, clear_code, clear_rest, code_names_none}
use Rattle.wasm_modules.proofs.SkippingLaws.{is_read, same_read, fault_is_none}

-- ---- the code of a function

-- the instructions from this index on are left, and none before it names a data segment
pub record Unread (code : List ℕ) (calls : List Instruction) (left : List ℕ) (index : ℕ) : Type 0 where
  pub rest : List Instruction
  pub encodes : Joined instruction.Encodes left rest
  pub same : position names_data calls ≡ position_from names_data index rest
  pub few : index + length left ≤ length code

abbrev pub Reading : List ℕ → List ℕ → ℕ → Type 0
Reading code left index = (locals : List (ℕ × ValType)) (calls : List Instruction) → function_code.Encodes code (locals, calls) → Unread code calls left index

-- the search finds the first instruction that names data
abbrev pub Finds : List ℕ → Option ℕ → Type 0
Finds code found = (locals : List (ℕ × ValType)) (calls : List Instruction) → function_code.Encodes code (locals, calls) → found ≡ position names_data calls

pub behind_locals : (old new : Place) → Skips {X = Unit {0}} (λ v. tt) (items local_group) old new (Ok tt) → Reading old.left new.left 0
behind_locals old new skips locals calls g =
    let left : new.left ≡ g.1 = (skips g.0 g.1 locals g.2 g.3).0 in
    record { rest = calls; encodes = subst (λ (l : List ℕ). Joined instruction.Encodes l calls) (sym left) g.4; same = position_from-zero names_data calls; few = omega (arith, ap (length {A = ℕ}) left, ap (length {A = ℕ}) g.2, length-append g.0 g.1) }

pub no_locals : (old new : Place) (fault : Fault) (found : Option ℕ) → Skips {X = Unit {0}} (λ v. tt) (items local_group) old new (Err fault) → IsMalformed fault → Finds old.left found
no_locals old new (faults.Malformed m) found skips malformed locals calls g = absurd (skips g.0 g.1 locals g.2 g.3)
no_locals old new faults.Memory found skips malformed locals calls g = absurd malformed

-- the next instruction
record NextCall (left : List ℕ) (rest : List Instruction) : Type 0 where
  pub call : Instruction
  pub more : List Instruction
  pub is : rest ≡ call ∷ more
  pub prefix : List ℕ
  pub back : List ℕ
  pub parts : left ≡ prefix ++ back
  pub first : instruction.Encodes prefix call
  pub others : Joined instruction.Encodes back more

next_call : (left : List ℕ) (rest : List Instruction) → 0 < length left → Joined instruction.Encodes left rest → NextCall left rest
next_call left [] some g = absurd (omega (arith, some, ap (length {A = ℕ}) g))
next_call left (i ∷ rest) some g = record { call = i; more = rest; is = refl; prefix = g.0; back = g.1; parts = g.2; first = g.3; others = g.4 }

some_byte : (prefix : List ℕ) (i : Instruction) → instruction.Encodes prefix i → 0 < length prefix
some_byte [] i g = absurd (instruction_takes i g)
some_byte (b ∷ prefix) i g = omega arith

module _ (code : List ℕ) (here next : Place) (index : ℕ) (so_far : Reading code here.left index) (some : 0 < length here.left) where
  pub read_on : (op : Opcode) → Skips (λ (i : Instruction). i.op) instruction here next (Ok op) → op_names_data op ≡ false → Reading code next.left (index + 1)
  read_on op skips names locals calls g =
      let u = so_far locals calls g in
      let n = next_call here.left u.rest some u.encodes in
      let s = skips n.prefix n.back n.call n.parts n.first in
      let none : names_data n.call ≡ false = ap op_names_data (sym s.1) ∙ names in
      record {
        rest = n.more;
        encodes = subst (λ (l : List ℕ). Joined instruction.Encodes l n.more) (sym s.0) n.others;
        same = u.same ∙ ap (position_from names_data index) n.is ∙ rw none refl;
        few = omega (arith, u.few, some_byte n.prefix n.call n.first, ap (length {A = ℕ}) n.parts, length-append n.prefix n.back, ap (length {A = ℕ}) s.0);
      }

  pub read_on_plain : SkipsPlain here next → Reading code next.left (index + 1)
  read_on_plain skips locals calls g =
      let u = so_far locals calls g in
      let n = next_call here.left u.rest some u.encodes in
      let s = skips n.prefix n.back n.call n.parts n.first in
      record {
        rest = n.more;
        encodes = subst (λ (l : List ℕ). Joined instruction.Encodes l n.more) (sym s.0) n.others;
        same = u.same ∙ ap (position_from names_data index) n.is ∙ rw s.1 refl;
        few = omega (arith, u.few, some_byte n.prefix n.call n.first, ap (length {A = ℕ}) n.parts, length-append n.prefix n.back, ap (length {A = ℕ}) s.0);
      }

  pub found_here : (op : Opcode) → Skips (λ (i : Instruction). i.op) instruction here next (Ok op) → op_names_data op ≡ true → Finds code (Some index)
  found_here op skips names locals calls g =
      let u = so_far locals calls g in
      let n = next_call here.left u.rest some u.encodes in
      let s = skips n.prefix n.back n.call n.parts n.first in
      let yes : names_data n.call ≡ true = ap op_names_data (sym s.1) ∙ names in
      sym (u.same ∙ ap (position_from names_data index) n.is ∙ rw yes refl)

  pub malformed_here : (fault : Fault) (found : Option ℕ) → Skips (λ (i : Instruction). i.op) instruction here next (Err fault) → IsMalformed fault → Finds code found
  malformed_here (faults.Malformed m) found skips malformed locals calls g =
      let u = so_far locals calls g in
      let n = next_call here.left u.rest some u.encodes in
      absurd (skips n.prefix n.back n.call n.parts n.first)
  malformed_here faults.Memory found skips malformed locals calls g = absurd malformed

ended : (left : List ℕ) (rest : List Instruction) → length left ≤ 0 → Joined instruction.Encodes left rest → rest ≡ []
ended left [] none g = refl
ended left (i ∷ rest) none g = absurd (omega (arith, none, some_byte g.0 i g.3, ap (length {A = ℕ}) g.2, length-append g.0 g.1))

pub read_all : (code : List ℕ) (here : Place) (index : ℕ) → Reading code here.left index → length here.left ≤ 0 → Finds code None
read_all code here index so_far none locals calls g =
    let u = so_far locals calls g in
    sym (u.same ∙ ap (position_from names_data index) (ended here.left u.rest none u.encodes))

pub counted_out : (code : List ℕ) (here : Place) (index : ℕ) → Reading code here.left index → length code ≤ index → Finds code None
counted_out code here index so_far over locals calls g =
    let u = so_far locals calls g in
    sym (u.same ∙ ap (position_from names_data index) (ended here.left u.rest (omega (arith, u.few, over)) u.encodes))

-- ---- scanned instructions

-- bytes that were scanned are an instruction without a prefix
pub scanned_plain : (old new : Place) (first count : ℕ) → IsBytes old.left → get_or (take 16 old.left) 0 0 ≡ first → first < 0xfb → 16 ≤ length old.left → count ≤ 16
    → (i : Instruction) → instruction.at (place true (take 16 old.left)) ≡ Some (i, place true (drop count (take 16 old.left))) → new.left ≡ drop count old.left → SkipsPlain old new
scanned_plain old new first count fits head small long few i read moved prefix back j parts g =
    let bytes = take 16 old.left in
    let all : old.left ≡ bytes ++ drop 16 old.left = sym (take-append-drop 16 old.left) in
    let bytes_fit : IsBytes bytes = IsBytes-prefix bytes (drop 16 old.left) (subst IsBytes all fits) in
    let one = Lawful-instruction.reads.sound (place true bytes) i (place true (drop count bytes)) bytes_fit read in
    let rest = drop count bytes ++ drop 16 old.left in
    let whole : old.left ≡ one.prefix ++ rest = all ∙ ap (λ (l : List ℕ). l ++ drop 16 old.left) one.parts ∙ append_assoc one.prefix (drop count bytes) (drop 16 old.left) in
    let len : length one.prefix ≡ count = omega (arith, ap (length {A = ℕ}) one.parts, length-append one.prefix (drop count bytes), length-drop count bytes, length-take 16 old.left, long, few) in
    let mine = is_read Lawful-instruction old one.prefix rest i whole one.encodes in
    let yours = same_read (is_read Lawful-instruction old prefix back j parts g) mine.read in
    let same : rest ≡ back = sym mine.left ∙ yours.0 in
    let left : new.left ≡ back = moved ∙ ap (drop count) whole ∙ drop_at one.prefix rest count len ∙ same in
    let begins : get_or old.left 0 0 ≡ first = sym (get_or-take 16 old.left 0 0 (omega arith)) ∙ head in
    (left, plain_names_none prefix back j first g (ap (λ (l : List ℕ). get_or l 0 0) (sym parts) ∙ begins) small)

-- ---- the bodies of a code section

-- the bodies from this index on are left, none before it names a data segment, and no such opcode begins before the last
-- bytes
pub record Unsearched (section : List ℕ) (bodies : List CodeBody) (left : List ℕ) (count index ahead : ℕ) : Type 0 where
  pub before : List CodeBody
  pub rest : List CodeBody
  pub parts : bodies ≡ before ++ rest
  pub at : index ≡ length before
  pub number : count ≡ index + length rest
  pub encodes : Joined code_body.Encodes left rest
  pub none : NameNoData before
  pub done : List ℕ
  pub suffix : section ≡ done ++ left
  pub clear : Clear ahead left

abbrev pub Searching : List ℕ → List ℕ → ℕ → ℕ → ℕ → Type 0
Searching section left count index ahead = (bodies : List CodeBody) → (items code_body).Encodes section bodies → Unsearched section bodies left count index ahead

-- the search of all bodies has this result
abbrev pub Tells : List ℕ → Option InstructionPlace → Type 0
Tells section place = (bodies : List CodeBody) → (items code_body).Encodes section bodies → TellsDataUse bodies place

pub behind_count : (section : List ℕ) (old mid : Place) (count ahead : ℕ) → old.left ≡ section → u32_at old ≡ Some (count, mid) → Clear ahead section → Searching section mid.left count 0 ahead
behind_count section old mid count ahead is read clear bodies g =
    let same = same_read (is_read Lawful-u32 old g.0 g.1 (length bodies) (is ∙ g.2) g.3) read in
    record {
      before = [];
      rest = bodies;
      parts = refl;
      at = refl;
      number = omega (arith, same.1);
      encodes = subst (λ (l : List ℕ). Joined code_body.Encodes l bodies) (sym same.0) g.4;
      none = λ k d lt. absurd (omega (arith, lt));
      done = g.0;
      suffix = g.2 ∙ ap (λ (l : List ℕ). g.0 ++ l) (sym same.0);
      clear = clear_rest section g.0 mid.left ahead (g.2 ∙ ap (λ (l : List ℕ). g.0 ++ l) (sym same.0)) clear;
    }

pub no_count : (section : List ℕ) (old mid : Place) (fault : Fault) (found : Option InstructionPlace) → old.left ≡ section → Reads u32_at old mid (Err fault) → IsMalformed fault → Tells section found
no_count section old mid fault found is none malformed bodies g = fault_is_none (is_read Lawful-u32 old g.0 g.1 (length bodies) (is ∙ g.2) g.3) mid fault none malformed

none_is_some : {A : Type 0} {x : A} → None ≡ Some x → ⊥
none_is_some e = absurd cc

-- the item behind the first ones
slice_get_behind : {X : Type 0} (xs : List X) (x : X) (more : List X) (i : ℕ) → i ≡ length xs → slice_get (xs ++ x ∷ more) i ≡ Some x
slice_get_behind [] x more i is = rw is refl
slice_get_behind (y ∷ xs) x more i is = rw is (slice_get_behind xs x more (length xs) refl)

module _ (section : List ℕ) (here next : Place) (count index ahead : ℕ) (so_far : Searching section here.left count index ahead) (lt : index < count) where
  -- the next body
  record NextBody (bodies : List CodeBody) : Type 0 where
    pub u : Unsearched section bodies here.left count index ahead
    pub body : CodeBody
    pub more : List CodeBody
    pub is : u.rest ≡ body ∷ more
    pub back : List ℕ
    pub at : BodyAt here back body
    pub others : Joined code_body.Encodes back more

  next_body : (bodies : List CodeBody) → (items code_body).Encodes section bodies → NextBody bodies
  next_body bodies g = by (so_far bodies g).rest refl where
    by : (rest : List CodeBody) → (so_far bodies g).rest ≡ rest → NextBody bodies
    by [] is = absurd (omega (arith, lt, (so_far bodies g).number, ap (length {A = CodeBody}) is))
    by (b ∷ more) is =
        let u = so_far bodies g in
        let e = subst (λ (l : List CodeBody). Joined code_body.Encodes here.left l) is u.encodes in
        record { u = u; body = b; more = more; is = is; back = e.1; at = body_is_at here e.0 e.1 b e.2 e.3; others = e.4 }

  pub no_body : (mid : Place) (fault : Fault) (found : Option InstructionPlace) → Reads body_at here mid (Err fault) → IsMalformed fault → Tells section found
  no_body mid (faults.Malformed m) found none malformed bodies g = absurd (none_is_some (sym none ∙ (next_body bodies g).at.read))
  no_body mid faults.Memory found none malformed bodies g = absurd malformed

  module _ (code : List ℕ) (read : body_at here ≡ Some (code, next)) where
    -- the body that was read
    record IsBody (bodies : List CodeBody) (n : NextBody bodies) : Type 0 where
      pub code_is : n.at.code ≡ code
      pub left : next.left ≡ n.back

    is_body : (bodies : List CodeBody) (n : NextBody bodies) → IsBody bodies n
    is_body bodies n =
        let same = some_is (n.at.code, n.at.after) (code, next) (sym n.at.read ∙ read) in
        record { code_is = ap (λ (x : List ℕ × Place). x.0) same; left = ap (λ (x : List ℕ × Place). x.1.left) (sym same) ∙ n.at.left }

    passed : (bodies : List CodeBody) (n : NextBody bodies) (now : ℕ) → first_data_use n.body ≡ None → Clear now next.left → Unsearched section bodies next.left count (index + 1) now
    passed bodies n now none clear =
        let b = is_body bodies n in
        let u = n.u in
        let all : here.left ≡ (n.at.size ++ n.at.code) ++ next.left = n.at.parts ∙ sym (append_assoc n.at.size n.at.code n.back) ∙ ap (λ (l : List ℕ). (n.at.size ++ n.at.code) ++ l) (sym b.left) in
        record {
          before = u.before ++ n.body ∷ [];
          rest = n.more;
          parts = u.parts ∙ ap (λ (l : List CodeBody). u.before ++ l) n.is ∙ sym (append_assoc u.before (n.body ∷ []) n.more);
          at = omega (arith, u.at, length-append u.before (n.body ∷ []));
          number = omega (arith, u.number, ap (length {A = CodeBody}) n.is);
          encodes = subst (λ (l : List ℕ). Joined code_body.Encodes l n.more) (sym b.left) n.others;
          none = All-push (λ (body : CodeBody). first_data_use body ≡ None) u.before n.body u.none none;
          done = u.done ++ (n.at.size ++ n.at.code);
          suffix = u.suffix ∙ ap (λ (l : List ℕ). u.done ++ l) all ∙ sym (append_assoc u.done (n.at.size ++ n.at.code) next.left);
          clear = clear;
        }

    -- no such opcode begins in the code
    pub search_skips : ahead ≤ length next.left → Searching section next.left count (index + 1) ahead
    search_skips le bodies g =
        let n = next_body bodies g in
        let b = is_body bodies n in
        let none = code_names_none n.at.code n.body n.at.encodes (clear_code here.left n.at.size n.at.code n.back ahead n.at.parts (omega (arith, le, ap (length {A = ℕ}) b.left)) n.u.clear) in
        let clear = clear_rest here.left (n.at.size ++ n.at.code) next.left ahead (n.at.parts ∙ sym (append_assoc n.at.size n.at.code n.back) ∙ ap (λ (l : List ℕ). (n.at.size ++ n.at.code) ++ l) (sym b.left)) n.u.clear in
        passed bodies n ahead none clear

    use_of : (found : Option ℕ) → Finds code found → (bodies : List CodeBody) (n : NextBody bodies) → found ≡ first_data_use n.body
    use_of found finds bodies n =
        let b = is_body bodies n in
        finds n.body.locals n.body.calls (subst (λ (l : List ℕ). function_code.Encodes l (n.body.locals, n.body.calls)) b.code_is n.at.encodes)

    -- the code was searched in vain, and the bytes from here on for such an opcode
    pub search_goes_on : (now from : ℕ) (rest : List ℕ) → Finds code None → from ≡ length section - length next.left → rest ≡ drop from section → Clear now rest → Searching section next.left count (index + 1) now
    search_goes_on now from rest finds at is clear bodies g =
        let n = next_body bodies g in
        let b = is_body bodies n in
        let all : here.left ≡ (n.at.size ++ n.at.code) ++ next.left = n.at.parts ∙ sym (append_assoc n.at.size n.at.code n.back) ∙ ap (λ (l : List ℕ). (n.at.size ++ n.at.code) ++ l) (sym b.left) in
        let done = n.u.done ++ (n.at.size ++ n.at.code) in
        let suffix : section ≡ done ++ next.left = n.u.suffix ∙ ap (λ (l : List ℕ). n.u.done ++ l) all ∙ sym (append_assoc n.u.done (n.at.size ++ n.at.code) next.left) in
        let same : rest ≡ next.left = is ∙ ap (drop from) suffix ∙ drop_at done next.left from (omega (arith, at, ap (length {A = ℕ}) suffix, length-append done next.left)) in
        passed bodies n now (sym (use_of None finds bodies n)) (subst (Clear now) same clear)

    pub search_finds : (instruction : ℕ) (place : InstructionPlace) → Finds code (Some instruction) → place.body ≡ index → place.instruction ≡ instruction → Tells section (Some place)
    search_finds instruction place finds body-is instruction-is bodies g =
        let n = next_body bodies g in
        let u = n.u in
        let all : bodies ≡ u.before ++ n.body ∷ n.more = u.parts ∙ ap (λ (l : List CodeBody). u.before ++ l) n.is in
        let first : take place.body bodies ≡ u.before = ap (take place.body) all ∙ take_at u.before (n.body ∷ n.more) place.body (omega (arith, body-is, u.at)) in
        let here : slice_get bodies place.body ≡ Some n.body = ap (λ (l : List CodeBody). slice_get l place.body) all ∙ slice_get_behind u.before n.body n.more place.body (omega (arith, body-is, u.at)) in
        let names : first_data_use n.body ≡ Some place.instruction = sym (use_of (Some instruction) finds bodies n) ∙ ap (λ (i : ℕ). Some i) (sym instruction-is) in
        (subst NameNoData (sym first) u.none, rw here names)

pub search_ends : (section : List ℕ) (here : Place) (count index ahead : ℕ) → Searching section here.left count index ahead → count ≤ index → Tells section None
search_ends section here count index ahead so_far le bodies g = by ((so_far bodies g).rest) refl where
  by : (rest : List CodeBody) → (so_far bodies g).rest ≡ rest → NameNoData bodies
  by [] is =
      let u = so_far bodies g in
      subst NameNoData (sym (u.parts ∙ ap (λ (l : List CodeBody). u.before ++ l) is ∙ append-nil u.before)) u.none
  by (b ∷ more) is = absurd (omega (arith, le, (so_far bodies g).number, ap (length {A = CodeBody}) is))

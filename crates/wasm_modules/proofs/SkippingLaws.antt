-- Calls that move a cursor over values, one after another.
use Rattle.std.proofs.Common.{◌≡◌, ◌∙◌, ℕ, ◌+◌, ◌<◌, ◌≤◌, false, List, [], ◌∷◌, ◌++◌, length, Option, Some, None, Result, Ok, Err, refl, sym, ap, subst, append_assoc, arith}
use Rattle.wasm_codec.specs.Inputs.{Takes}
use Rattle.wasm_codec.specs.Lawful.{IsLawful}
use Rattle.wasm_codec.specs.Outcomes.{IsMalformed}
use Rattle.wasm_codec.specs.Places.{Place, place, Reads, keeps, u32_at}
use Rattle.wasm_codec.specs.Reading.{map_ok}
use Rattle.wasm_codec.specs.Rewriter.{rewriting, no_rest}
use Rattle.wasm_codec.specs.declared.reader.cursor.Fault.{Fault}
use Rattle.wasm_codec.specs.declared.reader.cursor.Fault.TheVariants as faults
use Rattle.wasm_codec.specs.formats.Combinators.{Format, ◌⊗◌, made, items, u32, by_kind}
use Rattle.wasm_codec.specs.formats.Grammar.{Joined}
use Rattle.wasm_codec.proofs.FormatLaws.{Lawful-u32}
use Rattle.wasm_codec.proofs.Laws.{some_is}
use Rattle.wasm_types.specs.formats.Types.{val_type}
use Rattle.wasm_instructions.specs.OperandParts.{br_table_part, types_part, try_table_part, resume_part, resume_throw_part}
use Rattle.wasm_instructions.specs.declared.table.call.Operands.TheVariants as operands
use Rattle.wasm_instructions.specs.declared.table.opcode.Kind.TheVariants as kinds
use Rattle.wasm_instructions.specs.declared.table.call.Operands.{Operands}
use Rattle.wasm_instructions.specs.declared.table.opcode.Kind.{Kind}
use Rattle.wasm_instructions.specs.declared.table.opcode.Opcode.{Opcode}
use Rattle.wasm_instructions.specs.formats.Instructions.{Instruction, instruction, opcode, operands_format}
use Rattle.wasm_instructions.specs.formats.Opcodes.{opcode_kind}
use Rattle.wasm_instructions.proofs.InstructionFormatLaws.{Lawful-opcode}
use Rattle.wasm_instructions.specs.formats.Operands.{block_type, catch_clause, handle_clause}
use Rattle.wasm_modules.specs.Skipping.{Skips}

-- ---- one value

-- the format reads this value at the place, up to these bytes
pub record IsRead {V : Type 0} (F : Format V) (old : Place) (back : List ℕ) (v : V) : Type 0 where
  pub after : Place
  pub read : F.at old ≡ Some (v, after)
  pub left : after.left ≡ back

pub is_read : {V : Type 0} {F : Format V} → IsLawful F → (old : Place) (prefix back : List ℕ) (v : V) → old.left ≡ prefix ++ back → F.Encodes prefix v → IsRead F old back v
is_read {V} {F} law old prefix back v parts g =
    record { after = place (keeps old.minimal prefix (F.bytes v)) back; read = ap (λ (l : List ℕ). F.at (place old.minimal l)) parts ∙ law.reads.complete prefix v back old.minimal g; left = refl }

-- what was read there is that value
pub same_read : {V : Type 0} {F : Format V} {old : Place} {back : List ℕ} {v w : V} {new : Place} → IsRead F old back v → F.at old ≡ Some (w, new) → (new.left ≡ back) × (w ≡ v)
same_read {v = v} {w} {new} one read =
    let same = some_is (w, new) (v, one.after) (sym read ∙ one.read) in
    (ap (λ x. x.1.left) same ∙ one.left, ap (λ x. x.0) same)

pub not_none : {V : Type 0} {F : Format V} {old : Place} {back : List ℕ} {v : V} → IsRead F old back v → F.at old ≡ None → ⊥
not_none one none = clash (sym none ∙ one.read) where
  clash : {A : Type 0} {x : A} → None ≡ Some x → ⊥
  clash e = absurd cc

pub fault_is_none : {V : Type 0} {F : Format V} {old : Place} {back : List ℕ} {v : V} {A : Type 0} → IsRead F old back v → (mid : Place) (fault : Fault) → Reads F.at old mid (Err fault) → IsMalformed fault → A
fault_is_none one mid (faults.Malformed m) none malformed = absurd (not_none one none)
fault_is_none one mid faults.Memory none malformed = absurd malformed

-- a call that reads a value moves over it
pub read_skips : {V X : Type 0} {F : Format V} (view : V → X) → IsLawful F → (old new : Place) (v : V) → F.at old ≡ Some (v, new) → Skips view F old new (Ok (view v))
read_skips view law old new v read prefix back w parts g =
    let same = same_read (is_read law old prefix back w parts g) read in
    (same.0, ap view same.1)

pub fault_skips : {V X : Type 0} {F : Format V} (view : V → X) → IsLawful F → (old mid new : Place) (fault : Fault) → Reads F.at old mid (Err fault) → Skips view F old new (Err fault)
fault_skips view law old mid new (faults.Malformed m) none prefix back v parts g = not_none (is_read law old prefix back v parts g) none
fault_skips view law old mid new faults.Memory none prefix back v parts g = tt

-- ---- values one after another

done : {V : Type 0} → V → Unit {0}
done v = tt

-- the value of either kind of call is that there is none
abbrev pub Passes : {V : Type 0} → Format V → Place → Place → Result (Unit {0}) Fault → Type 0
Passes F = Skips (λ v. tt) F

pub passes_both : {A B : Type 0} (F : Format A) (G : Format B) (old mid new : Place) (result : Result (Unit {0}) Fault) → Passes F old mid (Ok tt) → Passes G mid new result → Passes (F ⊗ G) old new result
passes_both F G old mid new result first second prefix back v parts g =
    let here = first g.0 (g.1 ++ back) v.0 (parts ∙ ap (λ (l : List ℕ). l ++ back) g.2 ∙ append_assoc g.0 g.1 back) g.3 in
    second g.1 back v.1 here.0 g.4

pub first_fails : {A B : Type 0} (F : Format A) (G : Format B) (old mid new : Place) (fault : Fault) → Passes F old mid (Err fault) → Passes (F ⊗ G) old new (Err fault)
first_fails F G old mid new (faults.Malformed m) first prefix back v parts g = first g.0 (g.1 ++ back) v.0 (parts ∙ ap (λ (l : List ℕ). l ++ back) g.2 ∙ append_assoc g.0 g.1 back) g.3
first_fails F G old mid new faults.Memory first prefix back v parts g = tt

pub passes_made : {A B : Type 0} (make : A → B) (of : B → Option A) (F : Format A) (old new : Place) (result : Result (Unit {0}) Fault) → Passes F old new result → Passes (made make of F) old new result
passes_made make of F old new result first prefix back v parts g = first prefix back g.0 parts g.1

-- ---- lists

-- the items from this index on precede these bytes
pub record Remaining {V : Type 0} (F : Format V) (left back : List ℕ) (count index : ℕ) : Type 0 where
  pub rest : List V
  pub bytes : List ℕ
  pub parts : left ≡ bytes ++ back
  pub encodes : Joined F.Encodes bytes rest
  pub number : count ≡ index + length rest

-- if the bytes begin with a list, the items before this index were passed
abbrev pub Passing : {V : Type 0} → Format V → Place → Place → ℕ → ℕ → Type 0
Passing {V} F old here count index = (prefix back : List ℕ) (vs : List V) → old.left ≡ prefix ++ back → (items F).Encodes prefix vs → Remaining F here.left back count index

module _ {V : Type 0} (F : Format V) where
  count_read : (old : Place) (prefix back : List ℕ) (vs : List V) → old.left ≡ prefix ++ back → (g : (items F).Encodes prefix vs) → IsRead u32 old (g.1 ++ back) (length vs)
  count_read old prefix back vs parts g = is_read Lawful-u32 old g.0 (g.1 ++ back) (length vs) (parts ∙ ap (λ (l : List ℕ). l ++ back) g.2 ∙ append_assoc g.0 g.1 back) g.3

  pub passing_none : (old mid : Place) (count : ℕ) → u32_at old ≡ Some (count, mid) → Passing F old mid count 0
  passing_none old mid count read prefix back vs parts g =
      let same = same_read (count_read old prefix back vs parts g) read in
      record { rest = vs; bytes = g.1; parts = same.0; encodes = g.4; number = omega (arith, same.1) }

  pub count_fails : (old mid new : Place) (fault : Fault) → Reads u32_at old mid (Err fault) → Passes (items F) old new (Err fault)
  count_fails old mid new (faults.Malformed m) none prefix back vs parts g = not_none (count_read old prefix back vs parts g) none
  count_fails old mid new faults.Memory none prefix back vs parts g = tt

  -- the next item is one of the list
  record NextItem (here : Place) (back : List ℕ) (count index : ℕ) : Type 0 where
    pub item : V
    pub rest : List V
    pub bytes : List ℕ
    pub read : IsRead F here (bytes ++ back) item
    pub encodes : Joined F.Encodes bytes rest
    pub number : count ≡ (index + 1) + length rest

  module _ (law : IsLawful F) (here : Place) (back : List ℕ) (count index : ℕ) (lt : index < count) where
    next_item : (rest : List V) (bytes : List ℕ) → here.left ≡ bytes ++ back → Joined F.Encodes bytes rest → count ≡ index + length rest → NextItem here back count index
    next_item [] bytes parts g number = absurd (omega (arith, number, lt))
    next_item (v ∷ rest) bytes parts g number =
        record { item = v; rest = rest; bytes = g.1; read = is_read law here g.0 (g.1 ++ back) v (parts ∙ ap (λ (l : List ℕ). l ++ back) g.2 ∙ append_assoc g.0 g.1 back) g.3; encodes = g.4; number = omega (arith, number) }

  pub passing_more : IsLawful F → (old here next : Place) (count index : ℕ) (v : V) → Passing F old here count index → index < count → F.at here ≡ Some (v, next) → Passing F old next count (index + 1)
  passing_more law old here next count index v so_far lt read prefix back vs parts g =
      let r = so_far prefix back vs parts g in
      let n = next_item law here back count index lt r.rest r.bytes r.parts r.encodes r.number in
      record { rest = n.rest; bytes = n.bytes; parts = (same_read n.read read).0; encodes = n.encodes; number = n.number }

  pub item_fails : IsLawful F → (old here mid new : Place) (count index : ℕ) (fault : Fault) → Passing F old here count index → index < count → Reads F.at here mid (Err fault) → Passes (items F) old new (Err fault)
  item_fails law old here mid new count index (faults.Malformed m) so_far lt none prefix back vs parts g =
      let r = so_far prefix back vs parts g in
      not_none (next_item law here back count index lt r.rest r.bytes r.parts r.encodes r.number).read none
  item_fails law old here mid new count index faults.Memory so_far lt none prefix back vs parts g = tt

  ended : (back : List ℕ) (rest : List V) (bytes : List ℕ) → length rest ≤ 0 → Joined F.Encodes bytes rest → bytes ++ back ≡ back
  ended back [] bytes none g = ap (λ (l : List ℕ). l ++ back) g
  ended back (v ∷ rest) bytes none g = absurd (omega (arith, none))

  pub passed_all : (old here : Place) (count index : ℕ) → Passing F old here count index → count ≤ index → Passes (items F) old here (Ok tt)
  passed_all old here count index so_far le prefix back vs parts g =
      let r = so_far prefix back vs parts g in
      (r.parts ∙ ended back r.rest r.bytes (omega (arith, r.number, le)) r.encodes, refl)

-- a call that reads a value passes it
pub passes_read : {V : Type 0} (F : Format V) → IsLawful F → (old new : Place) (result : Result V Fault) → Reads F.at old new result → Passes F old new (map_ok (λ x. tt {0}) result)
passes_read F law old new (Ok x) read = read_skips (λ v. tt {0}) law old new x read
passes_read F law old new (Err fault) none = fault_skips (λ v. tt {0}) law old new new fault none

-- what a call that takes a value from a cursor says
pub taken : {V : Type 0} (F : Format V) → IsLawful F → (old new : Place) (v : V) → Takes false F (rewriting [] old no_rest) (rewriting [] new no_rest) (Ok v) → Passes F old new (Ok tt)
taken F law old new v takes = read_skips (λ v. tt {0}) law old new v takes.read

pub take_fails : {V : Type 0} (F : Format V) → IsLawful F → (old mid new : Place) (fault : Fault) → Takes {V = V} false F (rewriting [] old no_rest) (rewriting [] mid no_rest) (Err fault) → Passes F old new (Err fault)
take_fails F law old mid new (faults.Malformed m) none = fault_skips (λ v. tt {0}) law old mid new (faults.Malformed m) none
take_fails F law old mid new faults.Memory none = absurd none

-- ---- operands

pub br_table_pass : (old mid new : Place) (result : Result (Unit {0}) Fault) → Passes (items u32) old mid (Ok tt) → Passes u32 mid new result → Passes (operands_format kinds.BrTable) old new result
unfolding operands_format
br_table_pass old mid new result first rest = passes_made (λ p. operands.BrTable p.0 p.1) br_table_part ((items u32) ⊗ u32) old new result (passes_both (items u32) u32 old mid new result first rest)

pub br_table_fail : (old mid new : Place) (fault : Fault) → Passes (items u32) old mid (Err fault) → Passes (operands_format kinds.BrTable) old new (Err fault)
unfolding operands_format
br_table_fail old mid new fault first = passes_made (λ p. operands.BrTable p.0 p.1) br_table_part ((items u32) ⊗ u32) old new (Err fault) (first_fails (items u32) u32 old mid new fault first)

pub types_pass : (old new : Place) (result : Result (Unit {0}) Fault) → Passes (items val_type) old new result → Passes (operands_format kinds.Types) old new result
unfolding operands_format
types_pass old new result all = passes_made operands.Types types_part (items val_type) old new result all

pub try_table_pass : (old mid new : Place) (result : Result (Unit {0}) Fault) → Passes block_type old mid (Ok tt) → Passes (items catch_clause) mid new result → Passes (operands_format kinds.TryTable) old new result
unfolding operands_format
try_table_pass old mid new result first rest = passes_made (λ p. operands.TryTable p.0 p.1) try_table_part (block_type ⊗ (items catch_clause)) old new result (passes_both block_type (items catch_clause) old mid new result first rest)

pub try_table_fail : (old mid new : Place) (fault : Fault) → Passes block_type old mid (Err fault) → Passes (operands_format kinds.TryTable) old new (Err fault)
unfolding operands_format
try_table_fail old mid new fault first = passes_made (λ p. operands.TryTable p.0 p.1) try_table_part (block_type ⊗ (items catch_clause)) old new (Err fault) (first_fails block_type (items catch_clause) old mid new fault first)

pub resume_pass : (old mid new : Place) (result : Result (Unit {0}) Fault) → Passes u32 old mid (Ok tt) → Passes (items handle_clause) mid new result → Passes (operands_format kinds.Resume) old new result
unfolding operands_format
resume_pass old mid new result first rest = passes_made (λ p. operands.Resume p.0 p.1) resume_part (u32 ⊗ (items handle_clause)) old new result (passes_both u32 (items handle_clause) old mid new result first rest)

pub resume_fail : (old mid new : Place) (fault : Fault) → Passes u32 old mid (Err fault) → Passes (operands_format kinds.Resume) old new (Err fault)
unfolding operands_format
resume_fail old mid new fault first = passes_made (λ p. operands.Resume p.0 p.1) resume_part (u32 ⊗ (items handle_clause)) old new (Err fault) (first_fails u32 (items handle_clause) old mid new fault first)

pub resume_throw_pass : (old mid new : Place) (result : Result (Unit {0}) Fault) → Passes u32 old mid (Ok tt) → Passes (u32 ⊗ items handle_clause) mid new result → Passes (operands_format kinds.ResumeThrow) old new result
unfolding operands_format
resume_throw_pass old mid new result first rest = passes_made (λ p. operands.ResumeThrow p.0 p.1.0 p.1.1) resume_throw_part (u32 ⊗ (u32 ⊗ items handle_clause)) old new result (passes_both u32 (u32 ⊗ items handle_clause) old mid new result first rest)

pub resume_throw_fail : (old mid new : Place) (fault : Fault) → Passes u32 old mid (Err fault) → Passes (operands_format kinds.ResumeThrow) old new (Err fault)
unfolding operands_format
resume_throw_fail old mid new fault first = passes_made (λ p. operands.ResumeThrow p.0 p.1.0 p.1.1) resume_throw_part (u32 ⊗ (u32 ⊗ items handle_clause)) old new (Err fault) (first_fails u32 (u32 ⊗ items handle_clause) old mid new fault first)

-- ---- instructions

-- the opcode and the operands of the instruction at a place
record CallAt (old : Place) (back : List ℕ) (i : Instruction) : Type 0 where
  pub operands : Operands
  pub bytes : List ℕ
  pub op : IsRead opcode old (bytes ++ back) i.op
  pub encodes : (by_kind operands_format (opcode_kind i.op)).Encodes bytes operands

call_at : (old : Place) (prefix back : List ℕ) (i : Instruction) → old.left ≡ prefix ++ back → instruction.Encodes prefix i → CallAt old back i
unfolding instruction
call_at old prefix back i parts g =
    let op : g.0.0 ≡ i.op = ap (λ (j : Instruction). j.op) g.2 in
    let s = g.1 in
    let read = is_read Lawful-opcode old s.0 (s.1 ++ back) g.0.0 (parts ∙ ap (λ (l : List ℕ). l ++ back) s.2 ∙ append_assoc s.0 s.1 back) s.3 in
    record {
      operands = g.0.1;
      bytes = s.1;
      op = subst (λ (o : Opcode). IsRead opcode old (s.1 ++ back) o) op read;
      encodes = subst (λ (o : Opcode). (by_kind operands_format (opcode_kind o)).Encodes s.1 g.0.1) op s.4;
    }

pub opcode_fails : (old mid new : Place) (fault : Fault) → Takes {V = Opcode} false opcode (rewriting [] old no_rest) (rewriting [] mid no_rest) (Err fault) → Skips (λ (i : Instruction). i.op) instruction old new (Err fault)
opcode_fails old mid new (faults.Malformed m) none prefix back i parts g = not_none (call_at old prefix back i parts g).op none
opcode_fails old mid new faults.Memory none prefix back i parts g = absurd none

module _ (old mid new : Place) (op : Opcode) (read : opcode.at old ≡ Some (op, mid)) where
  -- the opcode that was read is that of the instruction
  same_op : (back : List ℕ) (i : Instruction) (at : CallAt old back i) → (mid.left ≡ at.bytes ++ back) × (op ≡ i.op)
  same_op back i at = same_read at.op read

  pub unknown_fails : {A : Type 0} → opcode_kind op ≡ None → (prefix back : List ℕ) (i : Instruction) → old.left ≡ prefix ++ back → instruction.Encodes prefix i → A
  unknown_fails none prefix back i parts g =
      let at = call_at old prefix back i parts g in
      absurd (subst (λ (k : Option Kind). (by_kind operands_format k).Encodes at.bytes at.operands) (ap opcode_kind (sym (same_op back i at).1) ∙ none) at.encodes)

  module _ (kind : Kind) (is : opcode_kind op ≡ Some kind) where
    operands_are : (back : List ℕ) (i : Instruction) (at : CallAt old back i) → (operands_format kind).Encodes at.bytes at.operands
    operands_are back i at = subst (λ (k : Option Kind). (by_kind operands_format k).Encodes at.bytes at.operands) (ap opcode_kind (sym (same_op back i at).1) ∙ is) at.encodes

    pub call_passes : Passes (operands_format kind) mid new (Ok tt) → Skips (λ (i : Instruction). i.op) instruction old new (Ok op)
    call_passes passes prefix back i parts g =
        let at = call_at old prefix back i parts g in
        let same = same_op back i at in
        ((passes at.bytes back at.operands same.0 (operands_are back i at)).0, same.1)

    pub operands_fail : (fault : Fault) → Passes (operands_format kind) mid new (Err fault) → Skips (λ (i : Instruction). i.op) instruction old new (Err fault)
    operands_fail (faults.Malformed m) fails prefix back i parts g =
        let at = call_at old prefix back i parts g in
        fails at.bytes back at.operands (same_op back i at).0 (operands_are back i at)
    operands_fail faults.Memory fails prefix back i parts g = tt

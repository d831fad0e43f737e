-- The laws of expressions, and what is read, rewritten and written of them.
use Rattle.std.proofs.Common.{◌≡◌, ℕ, zero, suc, ◌+◌, ◌-◌, ◌<◌, ◌≤◌, Bool, true, false, eqb, cond, List, [], ◌∷◌, ◌++◌, Option, Some, None, refl, sym, ap, subst, ◌∙◌, arith, length, Err, append_assoc, length-append}
use Rattle.std.proofs.lemmas.Bool.{eqb-true}
use Rattle.std.proofs.lemmas.List.{append-nil, flat_map_more}
use Rattle.std.specs.List.{flat_map, AllByRecursion}
use Rattle.wasm_codec.specs.Reading.{◌>>=◌}
use Rattle.wasm_codec.specs.Places.{Place, Reader, byte_at, u32_at, Sees}
use Rattle.wasm_codec.specs.formats.Combinators.{◌⊗>◌, by_kind}
use Rattle.wasm_codec.specs.Lawful.{IsLawful}
use Rattle.wasm_codec.specs.declared.reader.cursor.Fault.{Fault}
use Rattle.wasm_codec.specs.Outcomes.{IsLongestPrefix, IsMalformed}
use Rattle.wasm_codec.specs.formats.Grammar.{IsBytes}
use Rattle.wasm_codec.specs.Rewriter.{Rewriting, rewriting_after, Rewrites}
use Rattle.wasm_codec.specs.Encoding.{IsMinimal}
use Rattle.wasm_codec.proofs.Laws.{bind_some, some, some_is}
use Rattle.wasm_codec.proofs.PlaceLists.{after_items, regroup_items, after_no_items}
use Rattle.wasm_codec.proofs.FormatLaws.{read_in_range}
use Rattle.wasm_codec.proofs.RewriterLaws.{is_after, after_is}
use Rattle.wasm_codec.proofs.NumberLaws.{written}
use Rattle.wasm_lists.proofs.WrittenLists.{in_range_of}
use Rattle.wasm_instructions.specs.declared.table.opcode.Opcode.{Opcode}
use Rattle.wasm_instructions.specs.declared.table.opcode.Prefix.{Prefix}
use Rattle.wasm_instructions.specs.declared.table.call.Operands.{Operands}
use Rattle.wasm_instructions.specs.formats.Instructions.{Instruction, opcode, instruction, instruction_of, operands_format, is_one_byte, call, Instructions, instructions_bytes}
use Rattle.wasm_instructions.specs.formats.Opcodes.{without_prefix, after_fb, after_fc, after_fd, after_fe, opcode_kind, ranges}
use Rattle.wasm_instructions.specs.Instructions.{kind_of, IsCall}
use Rattle.wasm_instructions.proofs.InstructionFormatLaws.{Lawful-instruction, instruction_takes, encodes_call}
use Rattle.wasm_instructions.proofs.CallRanges.{call_in_range}
use Rattle.wasm_code.proofs.CodeBodyWriting.{calls_in_range, calls_counted}
use Rattle.wasm_externals.specs.formats.PartCombinators.{Move, goes_on, ends, fails, moved, until_at, AreEnded, GoesOnWith}
use Rattle.wasm_externals.specs.formats.Expressions.{opens, closed, delegated, nested, nested_by, end_call, expr}
use Rattle.wasm_externals.specs.ClosedExpressions.{IsClosed, IsCountedExpr}
use Rattle.wasm_externals.proofs.PartCombinatorLaws.{Lawful-until}
use Rattle.wasm_codec.specs.declared.reader.cursor.Fault.TheVariants as faults
use Rattle.wasm_codec.proofs.AppendLaws.{two}
use Rattle.wasm_instructions.specs.declared.table.opcode.Prefix.TheVariants as prefixes
use Rattle.wasm_instructions.specs.declared.table.opcode.Kind.TheVariants as kinds
use Rattle.wasm_instructions.specs.declared.table.call.Operands.TheVariants as operands

-- ---- instructions up to an end

-- these items were read, and what is read in all is this
pub record Gone {S A : Type 0} (next : S → A → Move S) (read : Reader A) (total : Option (List A × Place)) (most i : ℕ) (s : S) (here : Place) (vs : List A) : Type 0 where
  pub so_far : after_items vs (until_at next read (most - i) s here) ≡ total

module _ {S A : Type 0} (next : S → A → Move S) (read : Reader A) (total : Option (List A × Place)) (most : ℕ) where
  pub none_gone : (s : S) (here : Place) → until_at next read most s here ≡ total → Gone next read total most 0 s here []
  none_gone s here e =
      let k : most - 0 ≡ most = omega arith in
      record { so_far = rw k (after_no_items (until_at next read most s here) ∙ e) }

  one_more : (i : ℕ) (s : S) (here : Place) (vs : List A) → i < most → Gone next read total most i s here vs
      → after_items vs (read here >>= λ v. moved (λ t. until_at next read (most - (i + 1)) t v.1) v.0 v.1 (next s v.0)) ≡ total
  unfolding until_at
  one_more i s here vs lt g =
      let k : most - i ≡ suc (most - (i + 1)) = omega arith in
      rw k at g.so_far

  pub gone_on : (i : ℕ) (s t : S) (here after : Place) (vs : List A) (v : A) → i < most → read here ≡ Some (v, after) → next s v ≡ goes_on t → Gone next read total most i s here vs → Gone next read total most (i + 1) t after (vs ++ v ∷ [])
  gone_on i s t here after vs v lt e is g = record { so_far = sym (regroup_items vs v (until_at next read (most - (i + 1)) t after)) ∙ (rw (e, is) at (one_more i s here vs lt g)) }

  pub gone_ends : (i : ℕ) (s : S) (here after : Place) (vs : List A) (v : A) → i < most → read here ≡ Some (v, after) → next s v ≡ ends → Gone next read total most i s here vs → total ≡ Some (vs, after)
  gone_ends i s here after vs v lt e is g =
      let one : after_items vs (Some ([], after)) ≡ total = rw (e, is) at (one_more i s here vs lt g) in
      sym one ∙ ap (λ (l : List A). Some (l, after)) (append-nil vs)

  pub gone_fails : (i : ℕ) (s : S) (here after : Place) (vs : List A) (v : A) → i < most → read here ≡ Some (v, after) → next s v ≡ fails → Gone next read total most i s here vs → total ≡ None
  gone_fails i s here after vs v lt e is g = sym (rw (e, is) at (one_more i s here vs lt g))

  pub gone_none : (i : ℕ) (s : S) (here : Place) (vs : List A) → i < most → read here ≡ None → Gone next read total most i s here vs → total ≡ None
  gone_none i s here vs lt e g = sym (rw e at (one_more i s here vs lt g))

  pub gone_out : (i : ℕ) (s : S) (here : Place) (vs : List A) → most ≤ i → Gone next read total most i s here vs → total ≡ None
  unfolding until_at
  gone_out i s here vs le g =
      let k : most - i ≡ 0 = omega arith in
      sym (rw k at g.so_far)

-- ---- instructions

-- what the code asks of expressions
abbrev pub by_opcode : ℕ → Instruction → Move ℕ
by_opcode depth i = nested depth i.op

abbrev open_after : Move ℕ → ℕ
open_after (goes_on t) = t
open_after ends = 0
open_after fails = 0

-- at most one block more is open
by_byte_below : (depth b : ℕ) → open_after (nested_by depth b) ≤ depth + 1
by_byte_below depth b = by (opens b) (eqb b 0x0b) (eqb b 0x18) depth where
  by : (s t u : Bool) (depth : ℕ) → open_after (cond s (goes_on (suc depth)) (cond t (closed depth) (cond u (delegated depth) (goes_on depth)))) ≤ depth + 1
  by true t u depth = omega arith
  by false true u zero = omega arith
  by false true u (suc depth) = omega arith
  by false false true zero = omega arith
  by false false true (suc depth) = omega arith
  by false false false depth = omega arith

pub byte_below : (depth b t : ℕ) → goes_on t ≡ nested_by depth b → t ≤ depth + 1
byte_below depth b t e = subst (λ (m : Move ℕ). open_after m ≤ depth + 1) (sym e) (by_byte_below depth b)

opcode_open : (depth : ℕ) (prefix : Prefix) (number : ℕ) → open_after (nested depth (record { prefix = prefix; number = number })) ≤ depth + 1
opcode_open depth prefixes.None number = by_byte_below depth number
opcode_open depth prefixes.Fb number = omega arith
opcode_open depth prefixes.Fc number = omega arith
opcode_open depth prefixes.Fd number = omega arith
opcode_open depth prefixes.Fe number = omega arith

pub opcode_below : (depth : ℕ) (op : Opcode) (t : ℕ) → goes_on t ≡ nested depth op → t ≤ depth + 1
opcode_below depth op t e = subst (λ (m : Move ℕ). open_after m ≤ depth + 1) (sym e) (opcode_open depth op.prefix op.number)

-- the first byte tells what an instruction does
made_one : (make : ℕ → Opcode) (o : Option (ℕ × Place)) (op : Opcode) (mid : Place) → (o >>= λ a. some {A = Opcode × Place} (make a.0, a.1)) ≡ Some (op, mid) → (x : ℕ × Place) × (o ≡ Some x) × (make x.0 ≡ op)
made_one make o op mid e =
    let f = bind_some {B = Opcode × Place} o (λ a. Some (make a.0, a.1)) (op, mid) e in
    (f.0, f.1, ap (λ (y : Opcode × Place). y.0) (some_is (make f.0.0, f.0.1) (op, mid) f.2))

prefixed : (depth b n : ℕ) (make : ℕ → Opcode) (o : Option (ℕ × Place)) (op : Opcode) (mid : Place) → ((m : ℕ) → nested depth (make m) ≡ nested_by depth n) → b ≡ n → (o >>= λ a. some {A = Opcode × Place} (make a.0, a.1)) ≡ Some (op, mid) → nested depth op ≡ nested_by depth b
prefixed depth b n make o op mid stays is e =
    let f = made_one make o op mid e in
    ap (nested depth) (sym f.2) ∙ stays f.0.0 ∙ ap (nested_by depth) (sym is)

taken : (b : ℕ) (after : Place) (t : Bool) (x : ℕ × Place) → cond {A = Option (ℕ × Place)} t (Some (b, after)) None ≡ Some x → b ≡ x.0
taken b after true x e = ap (λ (y : ℕ × Place). y.0) (some_is (b, after) x e)
taken b after false x e = absurd cc

opcode_tells : (depth b : ℕ) (p after : Place) (op : Opcode) (mid : Place) → byte_at p ≡ Some (b, after) → opcode.at p ≡ Some (op, mid) → nested depth op ≡ nested_by depth b
unfolding opcode
opcode_tells depth b p after op mid first e = by (eqb b 0xfb) refl (eqb b 0xfc) refl (eqb b 0xfd) refl (eqb b 0xfe) refl (rw first at e) where
  by : (s : Bool) → eqb b 0xfb ≡ s → (t : Bool) → eqb b 0xfc ≡ t → (u : Bool) → eqb b 0xfd ≡ u → (v : Bool) → eqb b 0xfe ≡ v
      → cond s (u32_at after >>= λ a. some {A = Opcode × Place} (after_fb a.0, a.1)) (cond t (u32_at after >>= λ a. some {A = Opcode × Place} (after_fc a.0, a.1)) (cond u (u32_at after >>= λ a. some {A = Opcode × Place} (after_fd a.0, a.1)) (cond v (u32_at after >>= λ a. some {A = Opcode × Place} (after_fe a.0, a.1)) (cond {A = Option (ℕ × Place)} (is_one_byte b) (Some (b, after)) None >>= λ a. some {A = Opcode × Place} (without_prefix a.0, a.1))))) ≡ Some (op, mid)
      → nested depth op ≡ nested_by depth b
  by true is t t-is u u-is v v-is e = prefixed depth b 0xfb after_fb (u32_at after) op mid (λ m. refl) (eqb-true b 0xfb is) e
  by false other true is u u-is v v-is e = prefixed depth b 0xfc after_fc (u32_at after) op mid (λ m. refl) (eqb-true b 0xfc is) e
  by false other false other-2 true is v v-is e = prefixed depth b 0xfd after_fd (u32_at after) op mid (λ m. refl) (eqb-true b 0xfd is) e
  by false other false other-2 false other-3 true is e = prefixed depth b 0xfe after_fe (u32_at after) op mid (λ m. refl) (eqb-true b 0xfe is) e
  by false other false other-2 false other-3 false other-4 e =
      let f = made_one without_prefix (cond {A = Option (ℕ × Place)} (is_one_byte b) (Some (b, after)) None) op mid e in
      ap (nested depth) (sym f.2) ∙ ap (nested_by depth) (sym (taken b after (is_one_byte b) f.0 f.1))

pub first_tells : (depth b : ℕ) (p after : Place) (i : Instruction) (q : Place) → byte_at p ≡ Some (b, after) → instruction.at p ≡ Some (i, q) → nested depth i.op ≡ nested_by depth b
unfolding instruction
first_tells depth b p after i q first e =
    let f = bind_some {B = Instruction × Place} ((opcode ⊗> (λ op. by_kind operands_format (opcode_kind op))).at p) (λ a. Some (instruction_of a.0, a.1)) (i, q) e in
    let g = bind_some {B = (Opcode × Operands) × Place} (opcode.at p) (λ a. (by_kind operands_format (opcode_kind a.0)).at a.1 >>= λ x. Some ((a.0, x.0), x.1)) f.0 f.1 in
    let h = bind_some {B = (Opcode × Operands) × Place} ((by_kind operands_format (opcode_kind g.0.0)).at g.0.1) (λ x. Some ((g.0.0, x.0), x.1)) f.0 g.2 in
    let same : f.0.0.0 ≡ i.op = ap (λ (x : Instruction × Place). x.0.op) (some_is (instruction_of f.0.0, f.0.1) (i, q) f.2) in
    let own : g.0.0 ≡ f.0.0.0 = ap (λ (x : (Opcode × Operands) × Place). x.0.0) (some_is ((g.0.0, h.0.0), h.0.1) f.0 h.2) in
    ap (nested depth) (sym (own ∙ same)) ∙ opcode_tells depth b p after g.0.0 g.0.1 first g.1

pub no_byte : (p : Place) → byte_at p ≡ None → instruction.at p ≡ None
unfolding instruction opcode
no_byte p e = rw e refl

-- ---- expressions

-- only 0x0B ends them
byte_ends : (depth b : ℕ) → nested_by depth b ≡ ends → b ≡ 0x0b
byte_ends depth b e = by (opens b) refl (eqb b 0x0b) refl (eqb b 0x18) depth e where
  by : (s : Bool) → opens b ≡ s → (t : Bool) → eqb b 0x0b ≡ t → (u : Bool) (depth : ℕ) → cond s (goes_on (suc depth)) (cond t (closed depth) (cond u (delegated depth) (goes_on depth))) ≡ ends → b ≡ 0x0b
  by true opening t is u depth e = absurd cc
  by false opening true is u depth e = eqb-true b 0x0b is
  by false opening false is true zero e = absurd cc
  by false opening false is true (suc depth) e = absurd cc
  by false opening false is false depth e = absurd cc

opcode_ends : (depth : ℕ) (prefix : Prefix) (number : ℕ) → nested depth (record { prefix = prefix; number = number }) ≡ ends → record { prefix = prefix; number = number } ≡ without_prefix 0x0b
opcode_ends depth prefixes.None number e = ap without_prefix (byte_ends depth number e)
opcode_ends depth prefixes.Fb number e = absurd cc
opcode_ends depth prefixes.Fc number e = absurd cc
opcode_ends depth prefixes.Fd number e = absurd cc
opcode_ends depth prefixes.Fe number e = absurd cc

none_of : (o : Operands) → Some kinds.None ≡ Some (kind_of o) → o ≡ operands.None
none_of operands.None e = refl
none_of o e = absurd cc

pub end_kind : opcode_kind (without_prefix 0x0b) ≡ Some kinds.None
unfolding ranges
end_kind = refl

is_end : (op : Opcode) (o : Operands) → op ≡ without_prefix 0x0b → IsCall op o → call op o ≡ end_call
is_end op o is h =
    let none : o ≡ operands.None = none_of o (sym end_kind ∙ sym (ap opcode_kind is) ∙ h) in
    ap (λ (p : Opcode). call p o) is ∙ ap (λ (p : Operands). call (without_prefix 0x0b) p) none

pub only_end : (depth : ℕ) (i : Instruction) → instruction.InRange i → nested depth i.op ≡ ends → i ≡ end_call
only_end depth i fits e = is_end i.op i.operands (opcode_ends depth i.op.prefix i.op.number e) (encodes_call (instruction.bytes i) i (Lawful-instruction.minimal.encodes i fits))

pub expr_is_lawful : IsLawful expr
unfolding expr
expr_is_lawful = Lawful-until (λ depth i. nested depth i.op) end_call Lawful-instruction instruction_takes only_end 0

-- the blocks that are open before instructions are closed by them
abbrev pub IsClosedFrom : ℕ → List Instruction → Type 0
IsClosedFrom depth calls = AreEnded (λ depth i. nested depth i.op) end_call depth calls

-- ---- rewriting

-- these instructions were read and written, and so many blocks are open
pub record ExprGoing (old here : Rewriting) (most i depth : ℕ) : Type 0 where
  pub items : List Instruction
  pub gone : Gone by_opcode instruction.at (expr.at old.place) most i depth here.place items
  pub written : here.done ≡ old.done ++ flat_map instruction.bytes items
  pub rest : here.rest ≡ old.rest

pub expr_begun : (old : Rewriting) (most : ℕ) → most ≡ length old.place.left → ExprGoing old old most 0 0
unfolding expr
expr_begun old most e =
    let read : until_at by_opcode instruction.at most 0 old.place ≡ expr.at old.place = rw e refl in
    record { items = []; gone = none_gone by_opcode instruction.at (expr.at old.place) most 0 old.place read; written = sym (append-nil old.done); rest = refl }

module _ (old here next : Rewriting) (most i depth b : ℕ) (after : Place) (lt : i < most) (w : ExprGoing old here most i depth) (first : byte_at here.place ≡ Some (b, after)) (e : rewriting_after instruction here ≡ Some next) where
  one_more_written : (v : Instruction) → next.done ≡ here.done ++ instruction.bytes v → next.done ≡ old.done ++ flat_map instruction.bytes (w.items ++ v ∷ [])
  one_more_written v is = is ∙ ap (λ (d : List ℕ). d ++ instruction.bytes v) w.written ∙ flat_map_more instruction.bytes old.done w.items v

  pub expr_goes_on : (t : ℕ) → goes_on t ≡ nested_by depth b → ExprGoing old next most (i + 1) t
  expr_goes_on t move =
      let one = is_after instruction here next e in
      let is = first_tells depth b here.place after one.value next.place first one.given.is_read ∙ sym move in
      record {
        items = w.items ++ one.value ∷ [];
        gone = gone_on by_opcode instruction.at (expr.at old.place) most i depth t here.place next.place w.items one.value lt one.given.is_read is w.gone;
        written = one_more_written one.value one.given.written;
        rest = one.given.rest ∙ w.rest;
      }

  pub expr_ends : IsBytes here.place.left → ends ≡ nested_by depth b → rewriting_after expr old ≡ Some next
  unfolding expr
  expr_ends fits move =
      let one = is_after instruction here next e in
      let is = first_tells depth b here.place after one.value next.place first one.given.is_read ∙ sym move in
      let end_is = only_end depth one.value (read_in_range Lawful-instruction here.place one.value next.place fits one.given.is_read) is in
      let read = gone_ends by_opcode instruction.at (expr.at old.place) most i depth here.place next.place w.items one.value lt one.given.is_read is w.gone in
      after_is expr old next w.items read (one_more_written one.value one.given.written ∙ ap (λ (v : Instruction). old.done ++ flat_map instruction.bytes (w.items ++ v ∷ [])) end_is) (one.given.rest ∙ w.rest)

  pub expr_fails : fails ≡ nested_by depth b → expr.at old.place ≡ None
  expr_fails move =
      let one = is_after instruction here next e in
      let is = first_tells depth b here.place after one.value next.place first one.given.is_read ∙ sym move in
      gone_fails by_opcode instruction.at (expr.at old.place) most i depth here.place next.place w.items one.value lt one.given.is_read is w.gone

pub expr_unseen : (old here new : Rewriting) (most i depth : ℕ) (fault : Fault) → i < most → ExprGoing old here most i depth → Sees here.place (Err fault) → IsMalformed fault → Rewrites expr old new (Err fault)
expr_unseen old here new most i depth (faults.Malformed m) lt w none is = gone_none by_opcode instruction.at (expr.at old.place) most i depth here.place w.items lt (no_byte here.place none) w.gone
expr_unseen old here new most i depth faults.Memory lt w none is = absurd is

pub expr_wanting : (old here mid new : Rewriting) (most i depth : ℕ) (fault : Fault) → i < most → ExprGoing old here most i depth → Rewrites instruction here mid (Err fault) → Rewrites expr old new (Err fault)
expr_wanting old here mid new most i depth (faults.Malformed m) lt w none = gone_none by_opcode instruction.at (expr.at old.place) most i depth here.place w.items lt none w.gone
expr_wanting old here mid new most i depth faults.Memory lt w none = none

pub expr_out : (old here : Rewriting) (most i depth : ℕ) → most ≤ i → ExprGoing old here most i depth → expr.at old.place ≡ None
expr_out old here most i depth le w = gone_out by_opcode instruction.at (expr.at old.place) most i depth here.place w.items le w.gone

-- ---- writing

end_bytes : instruction.bytes end_call ≡ 0x0b ∷ []
unfolding instruction opcode operands_format
end_bytes = refl

with_end : (calls : List Instruction) → instructions_bytes (calls ++ end_call ∷ []) ≡ instructions_bytes calls ++ 0x0b ∷ []
with_end [] = ap (λ (l : List ℕ). l ++ []) end_bytes
with_end (call ∷ calls) = ap (λ (l : List ℕ). instruction.bytes call ++ l) (with_end calls) ∙ (rw (append_assoc (instruction.bytes call) (instructions_bytes calls) (0x0b ∷ [])) refl)

pub expr_appended : (calls : List Instruction) (old some new : List ℕ) → some ≡ old ++ instructions_bytes calls → new ≡ some ++ 0x0b ∷ [] → new ≡ old ++ expr.bytes calls
unfolding expr
expr_appended calls old some new p q = rw (with_end calls) (two old (instructions_bytes calls) (0x0b ∷ []) some new p q)

pub expr_counted : (calls : List Instruction) → Instructions (instructions_bytes calls) calls → IsCountedExpr calls
expr_counted calls encoded = calls_counted calls encoded

end_fits : instruction.InRange end_call
end_fits = call_in_range (without_prefix 0x0b) operands.None end_kind tt tt tt

and_end : (calls : List Instruction) → AllByRecursion instruction.InRange calls → AllByRecursion instruction.InRange (calls ++ end_call ∷ [])
and_end [] fits = (end_fits, tt)
and_end (call ∷ calls) fits = (fits.0, and_end calls fits.1)

pub expr_written : (calls : List Instruction) → Instructions (instructions_bytes calls) calls → IsClosed calls → IsMinimal expr.Encodes expr.bytes calls
unfolding expr
expr_written calls encoded closed = written expr_is_lawful.minimal calls (and_end calls (calls_in_range calls encoded), closed)

pub in_expr : (calls : List Instruction) → IsMinimal expr.Encodes expr.bytes calls → expr.InRange calls
in_expr calls h = in_range_of expr expr_is_lawful calls h

-- an instruction that opens and closes no block is closed
pub alone_closed : (op : Opcode) (o : Operands) → nested 0 op ≡ goes_on 0 → IsClosed (call op o ∷ [])
alone_closed op o e = rw e refl

-- what goes on with one property goes on with another that follows from it
goes_on_with : {S : Type 0} {P Q : S → Type 0} (m : Move S) → ((t : S) → P t → Q t) → GoesOnWith P m → GoesOnWith Q m
goes_on_with (goes_on t) f h = f t h
goes_on_with ends f h = h
goes_on_with fails f h = h

abbrev EndsFrom : ℕ → List Instruction → Type 0
EndsFrom = AreEnded (λ depth c. nested depth c.op) end_call

-- a closed expression stays closed if an instruction follows that opens and closes no block
pub one_more_closed : (calls : List Instruction) (i : Instruction) → ((depth : ℕ) → nested depth i.op ≡ goes_on depth) → IsClosed calls → IsClosed (calls ++ i ∷ [])
one_more_closed calls i flat = by calls 0 where
  by : (calls : List Instruction) (depth : ℕ) → EndsFrom depth calls → EndsFrom depth (calls ++ i ∷ [])
  by [] depth h = rw (flat depth) h
  by (c ∷ calls) depth h = goes_on_with (nested depth c.op) (λ t. by calls t) h

-- Bytes that are whole are their own longest prefix.
pub longest_whole : (Whole : List ℕ → Type 0) (bytes : List ℕ) → Whole bytes → IsLongestPrefix Whole bytes (length bytes)
longest_whole Whole bytes whole = record {
  prefix = bytes;
  rest = [];
  parts = sym (append-nil bytes);
  len_is = refl;
  whole = whole;
  longest = λ other after is w. omega (arith, ap (length {A = ℕ}) is, length-append other after);
}

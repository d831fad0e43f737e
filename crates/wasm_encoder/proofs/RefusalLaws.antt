-- Why values aren't added: which part of what can be written fails.
use Rattle.std.proofs.Common.{ℕ, suc, ◌+◌, ◌⊎◌, List, [], ◌∷◌, length, Option, Result, Ok, Err, IfErr, refl, inl, inr, arith}
use Rattle.std.specs.List.{All, AllByRecursion, Any}
use Rattle.std.specs.Iterator.{Count, size}
use Rattle.std.proofs.lemmas.List.Elements.{All-nil, All-cons}
use Rattle.wasm_types.specs.declared.types.value.ValType.{ValType}
use Rattle.wasm_types.specs.declared.types.composite.FuncType.{FuncType}
use Rattle.wasm_types.specs.declared.types.composite.CompositeInnerType.{CompositeInnerType}
use Rattle.wasm_types.specs.declared.types.composite.CompositeInnerType.TheVariants as inner
use Rattle.wasm_types.specs.declared.types.recursive.SubType.{SubType}
use Rattle.wasm_types.specs.declared.types.recursive.TypeEntry.{TypeEntry}
use Rattle.wasm_types.specs.declared.types.recursive.TypeEntry.TheVariants as entries
use Rattle.wasm_types.specs.TypeCounts.{CountedFunc, CountedInner, CountedSub, CountedEntry}
use Rattle.wasm_codec.specs.declared.encode.EncodeError.{EncodeError}
use Rattle.wasm_codec.specs.Encoding.{IsCount, OnlyTooLong}
use Rattle.wasm_lists.specs.Iterators.{IsItemsRefusal}
use Rattle.wasm_instructions.specs.Appending.{CountedCall}
use Rattle.wasm_instructions.specs.formats.Instructions.{Instruction}
use Rattle.wasm_instructions.specs.Instructions.{IsCounted}
use Rattle.wasm_instructions.specs.declared.table.call.Operands.{Operands}
use Rattle.wasm_instructions.specs.declared.table.call.Operands.TheVariants as operands
use Rattle.wasm_code.specs.declared.code.CodeBody.{CodeBody}
use Rattle.wasm_code.specs.CodeCounts.{CountedBody, func_bytes}
use Rattle.wasm_encoder.specs.EncodedLists.{EncodedItems, GivesSome, IsFull, IsMemoryOrTooLong, IsRefusalOfOne, IsRefusalOfEach, IsUncounted}
use Rattle.wasm_lists.proofs.EncodedListLaws.{which, both_or, counted_or, of_one, of_each}
use Rattle.wasm_encoder.specs.TypeSections.{UncountedFunc, UncountedInner, UncountedSub, UncountedEntry}
use Rattle.wasm_encoder.specs.CodeSections.{UncountedList, UncountedCall, UncountedBody}

-- ---- either it can be written, or a list is too long

three_or : {A B C D E F : Type 0} → A ⊎ D → B ⊎ E → C ⊎ F → (A × B × C) ⊎ (D ⊎ (E ⊎ F))
three_or (inl a) (inl b) (inl c) = inl (a, b, c)
three_or (inl a) (inl b) (inr f) = inr (inr (inr f))
three_or (inl a) (inr e) third = inr (inr (inl e))
three_or (inr d) second third = inr (inl d)

all_or : {A : Type 0} (P Q : A → Type 0) → ((x : A) → P x ⊎ Q x) → (xs : List A) → All P xs ⊎ Any Q xs
all_or P Q decide [] = inl (All-nil P)
all_or P Q decide (x ∷ xs) = more (decide x) (all_or P Q decide xs) where
  more : P x ⊎ Q x → All P xs ⊎ Any Q xs → All P (x ∷ xs) ⊎ Any Q (x ∷ xs)
  more (inr q) rest = inr (0, x, omega arith, refl, q)
  more (inl p) (inl ps) = inl (All-cons P x xs p ps)
  more (inl p) (inr (k, y, lt, at, q)) = inr (suc k, y, omega (arith, lt), at, q)

func_or : (f : FuncType) → CountedFunc f ⊎ UncountedFunc f
func_or f = both_or (counted_or (length f.params)) (counted_or (length f.results))

inner_or : (i : CompositeInnerType) → CountedInner i ⊎ UncountedInner i
inner_or (inner.Func f) = func_or f
inner_or (inner.Struct s) = counted_or (length s.fields)
inner_or (inner.Array a) = inl tt
inner_or (inner.Cont c) = inl tt

sub_or : (s : SubType) → CountedSub s ⊎ UncountedSub s
sub_or s = both_or (counted_or (length s.supertype_idxs)) (inner_or s.composite_type.inner)

entry_or : (e : TypeEntry) → CountedEntry e ⊎ UncountedEntry e
entry_or (entries.Sub s) = sub_or s
entry_or (entries.Rec types) = both_or (counted_or (length types)) (all_or CountedSub UncountedSub sub_or types)

list_or : (o : Operands) → IsCounted o ⊎ UncountedList o
list_or (operands.BrTable labels default) = counted_or (length labels)
list_or (operands.Types types) = counted_or (length types)
list_or (operands.TryTable ty clauses) = counted_or (length clauses)
list_or (operands.Resume index handlers) = counted_or (length handlers)
list_or (operands.ResumeThrow index tag handlers) = counted_or (length handlers)
list_or o = inl tt

calls_or : (calls : List Instruction) → AllByRecursion CountedCall calls ⊎ Any UncountedCall calls
calls_or [] = inl tt
calls_or (call ∷ calls) = more (list_or call.operands) (calls_or calls) where
  more : CountedCall call ⊎ UncountedCall call → AllByRecursion CountedCall calls ⊎ Any UncountedCall calls → AllByRecursion CountedCall (call ∷ calls) ⊎ Any UncountedCall (call ∷ calls)
  more (inr q) rest = inr (0, call, omega arith, refl, q)
  more (inl p) (inl ps) = inl (p, ps)
  more (inl p) (inr (k, y, lt, at, q)) = inr (suc k, y, omega (arith, lt), at, q)

body_or : (b : CodeBody) → CountedBody b ⊎ UncountedBody b
body_or b = three_or (counted_or (length b.locals)) (calls_or b.calls) (counted_or (length (func_bytes b)))

-- ---- results

pub func_refused : (old : EncodedItems) (f : FuncType) (e : EncodeError) → IsRefusalOfOne CountedFunc OnlyTooLong old f e → IsMemoryOrTooLong (IsFull old ⊎ UncountedFunc f) e
func_refused old f e refused = of_one CountedFunc old f e (func_or f) refused

pub sub_refused : (old : EncodedItems) (s : SubType) (e : EncodeError) → IsRefusalOfOne CountedSub OnlyTooLong old s e → IsMemoryOrTooLong (IsFull old ⊎ UncountedSub s) e
sub_refused old s e refused = of_one CountedSub old s e (sub_or s) refused

-- the same of what is returned
pub if_refused : (Reason Why : EncodeError → Type 0) (r : Result (Unit {0}) EncodeError) → ((e : EncodeError) → Reason e → Why e) → IfErr r Reason → IfErr r Why
if_refused Reason Why (Ok x) which refused = tt
if_refused Reason Why (Err e) which refused = which e refused

pub entries_refused : (old : EncodedItems) (more : List TypeEntry) (e : EncodeError) → IsRefusalOfEach CountedEntry OnlyTooLong old more e → IsMemoryOrTooLong (IsUncounted (old.count + length more) ⊎ Any UncountedEntry more) e
entries_refused old more e refused = of_each CountedEntry UncountedEntry old more e entry_or refused

pub function_refused : (old : EncodedItems) (function : List ℕ) (e : EncodeError) → IsRefusalOfOne (λ (f : List ℕ). IsCount (length f)) OnlyTooLong old function e → IsMemoryOrTooLong (IsFull old ⊎ IsUncounted (length function)) e
function_refused old function e refused = of_one (λ (f : List ℕ). IsCount (length f)) old function e (counted_or (length function)) refused

pub bodies_refused : (old : EncodedItems) (bodies : List CodeBody) (e : EncodeError) → IsRefusalOfEach CountedBody OnlyTooLong old bodies e → IsMemoryOrTooLong (IsUncounted (old.count + length bodies) ⊎ Any UncountedBody bodies) e
bodies_refused old bodies e refused = of_each CountedBody UncountedBody old bodies e body_or refused

-- ---- of iterators

-- where each item can be written, only their number can be too great
pub only_too_many : {S A : Type 0} (gives : S → Option A → S → Type 0) (left : S → Count) (s : S) (e : EncodeError) → IsItemsRefusal (λ x. Unit {0}) (λ x e. ⊥) gives left s e → IsMemoryOrTooLong (IsUncounted (size (left s))) e
only_too_many gives left s e (inl memory) = inl memory
only_too_many gives left s e (inr (inl long)) = inr long
only_too_many gives left s e (inr (inr none)) = absurd (none.3.4.1)

pub locals_refused : {S : Type 0} (gives : S → Option (ℕ × ValType) → S → Type 0) (left : S → Count) (locals : S) (e : EncodeError) → IsItemsRefusal (λ (p : ℕ × ValType). Unit {0} × Unit {0}) (λ p e. ⊥ ⊎ ⊥) gives left locals e → IsMemoryOrTooLong (IsUncounted (size (left locals))) e
locals_refused gives left locals e (inl memory) = inl memory
locals_refused gives left locals e (inr (inl long)) = inr long
locals_refused gives left locals e (inr (inr none)) = none_of (none.3.4.1) where
  none_of : {X : Type 0} → ⊥ ⊎ ⊥ → X
  none_of (inl never) = absurd never
  none_of (inr never) = absurd never

-- the first reason or the second
or_else : {A B : Type 0} (e : EncodeError) → IsMemoryOrTooLong A e ⊎ IsMemoryOrTooLong B e → IsMemoryOrTooLong (A ⊎ B) e
or_else e (inl (inl memory)) = inl memory
or_else e (inl (inr (is, a))) = inr (is, inl a)
or_else e (inr (inl memory)) = inl memory
or_else e (inr (inr (is, b))) = inr (is, inr b)

on_right : {A B C : Type 0} → (B → C) → A ⊎ B → A ⊎ C
on_right f (inl a) = inl a
on_right f (inr b) = inr (f b)

pub fields_refused : {S A : Type 0} (gives : S → Option A → S → Type 0) (left : S → Count) (old : EncodedItems) (fields : S) (e : EncodeError) → IsMemoryOrTooLong (IsFull old) e ⊎ IsItemsRefusal (λ x. Unit {0}) (λ x e. ⊥) gives left fields e → IsMemoryOrTooLong (IsFull old ⊎ IsUncounted (size (left fields))) e
fields_refused gives left old fields e refused = or_else e (on_right (only_too_many gives left fields e) refused)

pub both_refused : {S T A : Type 0} (gives_first : S → Option A → S → Type 0) (gives_second : T → Option A → T → Type 0) (first_left : S → Count) (second_left : T → Count) (old : EncodedItems) (first : S) (second : T) (e : EncodeError)
    → IsMemoryOrTooLong (IsFull old) e ⊎ (IsItemsRefusal (λ x. Unit {0}) (λ x e. ⊥) gives_first first_left first e ⊎ IsItemsRefusal (λ x. Unit {0}) (λ x e. ⊥) gives_second second_left second e)
    → IsMemoryOrTooLong (IsFull old ⊎ (IsUncounted (size (first_left first)) ⊎ IsUncounted (size (second_left second)))) e
both_refused gives_first gives_second first_left second_left old first second e refused = or_else e (on_right (λ items. or_else e (each items)) refused) where
  each : IsItemsRefusal (λ x. Unit {0}) (λ x e. ⊥) gives_first first_left first e ⊎ IsItemsRefusal (λ x. Unit {0}) (λ x e. ⊥) gives_second second_left second e → IsMemoryOrTooLong (IsUncounted (size (first_left first))) e ⊎ IsMemoryOrTooLong (IsUncounted (size (second_left second))) e
  each (inl h) = inl (only_too_many gives_first first_left first e h)
  each (inr h) = inr (only_too_many gives_second second_left second e h)

pub group_refused : {S : Type 0} (gives : S → Option SubType → S → Type 0) (left : S → Count) (old : EncodedItems) (types : S) (e : EncodeError) → IsMemoryOrTooLong (IsFull old) e ⊎ IsItemsRefusal CountedSub OnlyTooLong gives left types e
    → IsMemoryOrTooLong (IsFull old ⊎ (IsUncounted (size (left types)) ⊎ GivesSome gives types UncountedSub)) e
group_refused gives left old types e refused = or_else e (on_right items refused) where
  items : IsItemsRefusal CountedSub OnlyTooLong gives left types e → IsMemoryOrTooLong (IsUncounted (size (left types)) ⊎ GivesSome gives types UncountedSub) e
  items (inl memory) = inl memory
  items (inr (inl (is, long))) = inr (is, inl long)
  items (inr (inr (xs, t, yields, (k, x, lt, at, (cannot, is))))) = inr (is, inr (xs, t, yields, (k, x, lt, at, which (sub_or x) cannot)))

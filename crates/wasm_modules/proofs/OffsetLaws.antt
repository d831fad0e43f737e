-- The laws of the beginnings of names, and of what readers answer.
use Rattle.std.proofs.Common.{◌≡◌, ◌∙◌, ℕ, ◌+◌, true, false, List, ◌++◌, length, take, drop, Option, Some, None, eqb, refl, sym, ap, subst}
use Rattle.std.specs.Prelude.{MatchOption, IfSome, IfNone, IfOk, OnOk, Result, Ok, Err, is_some, is_err}
use Rattle.std.proofs.lemmas.List.{take_at, take-append-drop}
use lib.Pointwise.{pointwise, bytes_decides}
use Rattle.wasm_codec.specs.Outcomes.{IsOrMemory}
use Rattle.wasm_codec.specs.declared.reader.ReadError.{ReadError}
use Rattle.wasm_codec.specs.declared.reader.ReadError.TheVariants.{Refused}
use Rattle.wasm_modules.specs.Offsets.{BeginsWith}

-- ---- the beginning of a name

-- the result is the rest of the name after this beginning, or none if the name doesn't begin so
abbrev pub Stripped : {X : Type 0} → (X → List ℕ) → List ℕ → List ℕ → Option X → Type 0
Stripped now beginning name r = MatchOption r (pointwise eqb (take (length beginning) name) beginning ≡ false) (λ x. (pointwise eqb (take (length beginning) name) beginning ≡ true) × (now x ≡ drop (length beginning) name) × (length (now x) + length beginning ≡ length name))

pub begins : {X : Type 0} (now : X → List ℕ) (beginning name : List ℕ) (r : Option X) → Stripped now beginning name r → is_some r ≡ true → BeginsWith beginning name
begins now beginning name None h e = absurd cc
begins now beginning name (Some x) h e = (drop (length beginning) name, sym (take-append-drop (length beginning) name) ∙ ap (λ (t : List ℕ). t ++ drop (length beginning) name) ((bytes_decides (take (length beginning) name) beginning).0 h.0))

pub begins_not : {X : Type 0} (now : X → List ℕ) (beginning name : List ℕ) (r : Option X) → Stripped now beginning name r → is_some r ≡ false → BeginsWith beginning name → ⊥
begins_not now beginning name (Some x) h e w = absurd cc
begins_not now beginning name None h e w =
    let prefix : take (length beginning) name ≡ beginning = ap (take (length beginning)) w.1 ∙ take_at beginning w.0 (length beginning) refl in
    let there : pointwise eqb (take (length beginning) name) beginning ≡ true = (bytes_decides (take (length beginning) name) beginning).1 prefix in
    absurd cc

-- ---- what a reader answers

-- a fact about each result implies a fact about the one returned
pub mapped : {X E : Type 0} {P Q : X → Type 0} (r : Result X E) → ((x : X) → P x → Q x) → IfOk r P → IfOk r Q
mapped (Ok x) f h = f x h
mapped (Err e) f h = tt

pub some_holds : {X P : Type 0} (r : Option X) → is_some r ≡ true → IfSome r (λ x. P) → P
some_holds (Some x) e h = h
some_holds None e h = absurd cc

pub none_holds : {X P : Type 0} (r : Option X) → is_some r ≡ false → IfNone r P → P
none_holds (Some x) e h = absurd cc
none_holds None e h = h

pub ok_holds : {X E P : Type 0} (r : Result X E) → is_err r ≡ false → OnOk r P → P
ok_holds (Ok x) e h = h
ok_holds (Err x) e h = absurd cc

pub given_is : {X V : Type 0} (view : X → V) (v : V) (r : Result X ReadError) (x : X) → r ≡ Ok x → IsOrMemory view v r → view x ≡ v
given_is view v r x is h = subst (IsOrMemory view v) is h

pub not_refused : {X V : Type 0} (view : X → V) (v : V) (r : Result X ReadError) (at : ℕ) → r ≡ Err (Refused at) → IsOrMemory view v r → ⊥
not_refused view v r at is h = subst (IsOrMemory view v) is h

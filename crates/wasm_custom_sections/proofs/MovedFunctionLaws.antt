-- The laws of hints of functions that move with instructions.
use Rattle.std.proofs.Common.{◌≡◌, ◌∙◌, ℕ, zero, suc, ◌-◌, ◌<◌, ◌≤◌, List, [], ◌∷◌, ◌++◌, length, take, drop, get_or, Option, Some, None, IfSome, refl, sym, ap, subst, arith}
use Rattle.std.proofs.Math.ListN.{set}
use Rattle.std.specs.Prelude.{option_map, slice_get}
use Rattle.std.proofs.lemmas.List.{append-nil, drop_all, take_all}
use Rattle.std.proofs.lemmas.Option.{slice_get-get_or, slice_get-map, slice_get_past}
use Rattle.wasm_codec.specs.formats.Bodies.{byte_list}
use Rattle.wasm_codec.specs.formats.Grammar.{TakesBytes}
use Rattle.wasm_codec.proofs.BodyLaws.{Lawful-byte-list}
use Rattle.wasm_codec.proofs.FormatLaws.{takes_bytes}
use Rattle.wasm_codec.proofs.Laws.{some_is}
use Rattle.wasm_custom_sections.specs.MovedFunctions.{AreUnknown, HasFronts, IsBodyAt, MovesFunction, all_bodies, bytes_of_body}
use Rattle.wasm_custom_sections.specs.MovedOffsets.{AreFronts, Each, MovesHint}
use Rattle.wasm_custom_sections.specs.declared.branch_hints.BranchHint.{BranchHint}
use Rattle.wasm_custom_sections.specs.declared.branch_hints.FunctionHints.{FunctionHints}
use Rattle.wasm_custom_sections.specs.declared.moved_hints.functions.BodyBytes.{BodyBytes}
use Rattle.wasm_custom_sections.specs.declared.moved_hints.offsets.Fronts.{Fronts}
use Rattle.wasm_custom_sections.specs.formats.BranchHints.{hints_of}
use Rattle.wasm_custom_sections.proofs.MovedOffsetLaws.{each_one, hint_one}

pub byte_list_takes : TakesBytes byte_list.Encodes
byte_list_takes = takes_bytes Lawful-byte-list refl

-- the laws of bodies as bytes, for functions that name them
pub ruleset byte_list_laws = (Lawful-byte-list, byte_list_takes)

-- ---- a body

pub body_found : (imported index number : ℕ) (bodies : List BodyBytes) → imported ≤ index → number ≡ index - imported → (body : List ℕ) → slice_get (all_bodies bodies) number ≡ Some body → IsBodyAt imported (all_bodies bodies) index body
body_found imported index number bodies le is body found = record { defined = le; is = ap (slice_get (all_bodies bodies)) (sym is) ∙ found }

pub body_there : (bodies : List BodyBytes) (number : ℕ) (d : BodyBytes) → number < length bodies → slice_get (all_bodies bodies) number ≡ Some (bytes_of_body (get_or bodies number d))
body_there bodies number d lt = slice_get-map bytes_of_body bodies number ∙ ap (option_map bytes_of_body) (slice_get-get_or bodies number d lt)

-- ---- fronts that are known

-- the fronts of one body
pub record KnownAt (bodies : List (List ℕ)) (known : List (Option Fronts)) (i : ℕ) (body : List ℕ) : Type 0 where
  pub within : i < length known
  pub fronts : (d : Option Fronts) → IfSome (get_or known i d) (AreFronts body)

pub known_at : (bodies : List (List ℕ)) (known : List (Option Fronts)) (i : ℕ) (body : List ℕ) → HasFronts bodies known → slice_get bodies i ≡ Some body → KnownAt bodies known i body
known_at [] known i body all at = absurd cc
known_at (b ∷ bodies) [] i body all at = absurd all
known_at (b ∷ bodies) (k ∷ known) zero body all at = record { within = omega arith; fronts = λ d. subst (λ (t : List ℕ). IfSome k (AreFronts t)) (some_is b body at) all.0 }
known_at (b ∷ bodies) (k ∷ known) (suc i) body all at =
    let rest = known_at bodies known i body all.1 at in
    record { within = omega (arith, rest.within); fronts = rest.fronts }

pub known_set : (bodies : List (List ℕ)) (known : List (Option Fronts)) (i : ℕ) (body : List ℕ) (new : Option Fronts) → HasFronts bodies known → slice_get bodies i ≡ Some body → IfSome new (AreFronts body) → HasFronts bodies (set known i new)
known_set [] known i body new all at fits = absurd cc
known_set (b ∷ bodies) [] i body new all at fits = absurd all
known_set (b ∷ bodies) (k ∷ known) zero body new all at fits = (subst (λ (t : List ℕ). IfSome new (AreFronts t)) (sym (some_is b body at)) fits, all.1)
known_set (b ∷ bodies) (k ∷ known) (suc i) body new all at fits = (all.0, known_set bodies known i body new all.1 at fits)

pub known_none : (bodies : List (List ℕ)) (known : List (Option Fronts)) (count : ℕ) → AreUnknown count known → count ≡ length bodies → HasFronts bodies known
known_none [] [] count none is = tt
known_none [] (k ∷ known) count none is = absurd (omega (arith, none.len, is))
known_none (b ∷ bodies) [] count none is = absurd (omega (arith, none.len, is))
known_none (b ∷ bodies) (k ∷ known) count none is =
    let first : k ≡ None = none.none zero k (omega arith) in
    (subst (λ (t : Option Fronts). IfSome t (AreFronts b)) (sym first) tt, known_none bodies known (length known) (record { len = refl; none = λ i d lt. none.none (suc i) d (omega (arith, lt)) }) (omega (arith, none.len, is)))

known_length : (bodies : List (List ℕ)) (known : List (Option Fronts)) → HasFronts bodies known → length known ≡ length bodies
known_length [] [] all = refl
known_length [] (k ∷ known) all = absurd all
known_length (b ∷ bodies) [] all = absurd all
known_length (b ∷ bodies) (k ∷ known) all = ap suc (known_length bodies known all.1)

-- a slice that is written back
pub known_back : (bodies : List (List ℕ)) (old new : List (Option Fronts)) (len : ℕ) → len ≡ length old → HasFronts bodies old → HasFronts bodies new → HasFronts bodies (take len (new ++ drop (length new) old))
known_back bodies old new len is before after =
    let same : length new ≡ length old = known_length bodies new after ∙ sym (known_length bodies old before) in
    let rest : drop (length new) old ≡ [] = ap (λ (n : ℕ). drop n old) same ∙ drop_all (length old) old (omega arith) in
    let all : take len (new ++ drop (length new) old) ≡ new = ap (take len) (ap (λ (t : List (Option Fronts)). new ++ t) rest ∙ append-nil new) ∙ take_all len new (omega (arith, is, same)) in
    subst (HasFronts bodies) (sym all) after

-- ---- at most one

body_one : (imported index : ℕ) (bodies : List (List ℕ)) (a b : List ℕ) → IsBodyAt imported bodies index a → IsBodyAt imported bodies index b → a ≡ b
body_one imported index bodies a b one other = some_is a b (sym one.is ∙ other.is)

pub function_one : (imported : ℕ) (bodies : List (List ℕ)) (old new other : FunctionHints) → MovesFunction imported bodies old new → MovesFunction imported bodies old other → new ≡ other
function_one imported bodies old new other a b =
    let body : b.body ≡ a.body = body_one imported old.function_index bodies b.body a.body b.is_body a.is_body in
    let hints : new.hints ≡ other.hints = each_one (hint_one a.body) old.hints new.hints other.hints a.hints (subst (λ (t : List ℕ). Each (MovesHint t) old.hints other.hints) body b.hints) in
    ap (λ (n : ℕ). hints_of (n, new.hints)) (a.same ∙ sym b.same) ∙ ap (λ (l : List BranchHint). hints_of (other.function_index, l)) hints

-- ---- none

pub none_among : (imported index : ℕ) (bodies : List (List ℕ)) → index < imported → (body : List ℕ) → IsBodyAt imported bodies index body → ⊥
none_among imported index bodies lt body at = absurd (omega (arith, lt, at.defined))

pub none_there : (imported index number : ℕ) (bodies : List BodyBytes) → number ≡ index - imported → length bodies ≤ number → (body : List ℕ) → IsBodyAt imported (all_bodies bodies) index body → ⊥
none_there imported index number bodies is past body at =
    clash (slice_get (all_bodies bodies) (index - imported)) body (ap (slice_get (all_bodies bodies)) (sym is) ∙ slice_get-map bytes_of_body bodies number ∙ ap (option_map bytes_of_body) (slice_get_past bodies number past)) at.is
  where
    clash : {A : Type 0} (o : Option A) (x : A) → o ≡ None → o ≡ Some x → ⊥
    clash o x e f = absurd cc

-- the hints of a function can't be moved with its body
pub no_hints : (imported : ℕ) (bodies : List (List ℕ)) (old : FunctionHints) (body : List ℕ) → IsBodyAt imported bodies old.function_index body → ((moved : List BranchHint) → Each (MovesHint body) old.hints moved → ⊥) → (new : FunctionHints) → MovesFunction imported bodies old new → ⊥
no_hints imported bodies old body at none new m =
    let same : m.body ≡ body = body_one imported old.function_index bodies m.body body m.is_body at in
    none new.hints (subst (λ (t : List ℕ). Each (MovesHint t) old.hints new.hints) same m.hints)

-- The table has the names of opcodes at their numbers, and no opcode lies past the names of its prefix.
use Rattle.std.proofs.Common.{◌≡◌, ℕ, zero, suc, ◌<◌, ◌≤◌, true, IsTrue, List, [], ◌∷◌, length, map, get_or, Option, Some, None, is_some, refl, sym, ap, subst, ◌∙◌, arith}
use Rattle.std.proofs.lemmas.List.{length-map}
use Rattle.wasm_codec.specs.Reading.{◌>>=◌}
use Rattle.wasm_instructions.specs.formats.OpcodeNames.{names, opcode_name}
use Rattle.wasm_instructions.specs.formats.Opcodes.{ranges, kind_among, opcode_kind}
use Rattle.wasm_instructions.specs.Names.{HasName, HasNoneAfter, HasNoneNamed, IsNameTable}
use Rattle.wasm_instructions.specs.OpcodeTables.{end_below}
use Rattle.wasm_instructions.specs.declared.table.opcode.Kind.{Kind}
use Rattle.wasm_instructions.specs.declared.table.opcode.Opcode.{Opcode}
use Rattle.wasm_instructions.specs.declared.table.opcode.Prefix.{Prefix}
use Rattle.wasm_instructions.specs.declared.table.opcode.Prefix.TheVariants as prefixes
use Rattle.wasm_instructions.proofs.OpcodeLaws.{in_table}

known_below : (op : Opcode) (end : ℕ) (k : Option Kind) → kind_among (ranges op.prefix) op.number ≡ k → is_some k ≡ true → IsTrue (end_below (ranges op.prefix) end) → op.number < end
known_below op end None is known below = absurd cc
known_below op end (Some k) is known below = in_table (ranges op.prefix) end op.number k below is

-- an opcode's number is below the end of the names of its prefix
pub below_end : {A : Type 0} (op : Opcode) (text_of : A → List ℕ) (table : List A) → IsNameTable op.prefix (map text_of table) → is_some (opcode_kind op) ≡ true → op.number < length table
below_end op text_of table is known = subst (λ (n : ℕ). op.number < n) (length-map table text_of) (known_below op (length (map text_of table)) (opcode_kind op) refl known is.end)

known_has : (k : Option Kind) (name : List ℕ) → is_some k ≡ true → (k >>= λ kind. Some name) ≡ Some name
known_has None name known = absurd cc
known_has (Some k) name known = refl

-- the name at an opcode's number is its name
pub name_is : (op : Opcode) (table : List (List ℕ)) (name : List ℕ) → IsNameTable op.prefix table → is_some (opcode_kind op) ≡ true → get_or table op.number [] ≡ name → opcode_name op ≡ Some name
name_is op table name is known at = known_has (opcode_kind op) (get_or (names op.prefix) op.number []) known ∙ ap Some (ap (λ (t : List (List ℕ)). get_or t op.number []) (sym is.each) ∙ at)

pub get-map : {A B : Type 0} (f : A → B) (xs : List A) (i : ℕ) (d : A) (e : B) → i < length xs → get_or (map f xs) i e ≡ f (get_or xs i d)
get-map f [] i d e lt = absurd (omega arith)
get-map f (x ∷ xs) zero d e lt = refl
get-map f (x ∷ xs) (suc i) d e lt = get-map f xs i d e (omega arith)

known_kind : (k : Option Kind) (name other : List ℕ) → (k >>= λ kind. Some name) ≡ Some other → is_some k ≡ true
known_kind None name other named = absurd cc
known_kind (Some k) name other named = refl

-- the number of an opcode with a name is below the length of the longest table
has_below : (p : Prefix) (name : List ℕ) (kind : Option Kind) (number : ℕ) → HasName name kind (record { prefix = p; number = number }) → number < 276
unfolding ranges
has_below p name kind number has = by p (known_kind (opcode_kind op) (get_or (names p) number []) name has.named) where
  op : Opcode
  op = record { prefix = p; number = number }

  by : (q : Prefix) → is_some (opcode_kind (record { prefix = q; number = number })) ≡ true → number < 276
  by prefixes.None known = known_below (record { prefix = prefixes.None; number = number }) 276 _ refl known refl
  by prefixes.Fb known = known_below (record { prefix = prefixes.Fb; number = number }) 276 _ refl known refl
  by prefixes.Fc known = known_below (record { prefix = prefixes.Fc; number = number }) 276 _ refl known refl
  by prefixes.Fd known = known_below (record { prefix = prefixes.Fd; number = number }) 276 _ refl known refl
  by prefixes.Fe known = known_below (record { prefix = prefixes.Fe; number = number }) 276 _ refl known refl

-- no opcode with this prefix has a name that none has up to the end of the longest table
pub none_after : (p : Prefix) (name : List ℕ) (kind : Option Kind) (end : ℕ) → 276 ≤ end → ((number : ℕ) → number < end → HasName name kind (record { prefix = p; number = number }) → ⊥) → HasNoneAfter p name kind
none_after p name kind end le none number has = none number (omega (arith, le, has_below p name kind number has)) has

-- no opcode has a name that none has with any of the five prefixes
pub none_named : (name : List ℕ) (kind : Option Kind) (items : List Prefix) (end : ℕ) → items ≡ prefixes.None ∷ prefixes.Fb ∷ prefixes.Fc ∷ prefixes.Fd ∷ prefixes.Fe ∷ [] → 5 ≤ end → ((k : ℕ) → k < end → HasNoneAfter (get_or items k prefixes.None) name kind) → HasNoneNamed name kind
none_named name kind items end are le none op has = by op.prefix refl where
  at : (k : ℕ) → k < 5 → HasNoneAfter (get_or (prefixes.None ∷ prefixes.Fb ∷ prefixes.Fc ∷ prefixes.Fd ∷ prefixes.Fe ∷ []) k prefixes.None) name kind
  at k lt = subst (λ (ps : List Prefix). HasNoneAfter (get_or ps k prefixes.None) name kind) are (none k (omega (arith, le, lt)))

  same : (q : Prefix) → op.prefix ≡ q → HasName name kind (record { prefix = q; number = op.number })
  same q is = subst (λ (r : Prefix). HasName name kind (record { prefix = r; number = op.number })) is has

  by : (q : Prefix) → op.prefix ≡ q → ⊥
  by prefixes.None is = at 0 (omega arith) op.number (same prefixes.None is)
  by prefixes.Fb is = at 1 (omega arith) op.number (same prefixes.Fb is)
  by prefixes.Fc is = at 2 (omega arith) op.number (same prefixes.Fc is)
  by prefixes.Fd is = at 3 (omega arith) op.number (same prefixes.Fd is)
  by prefixes.Fe is = at 4 (omega arith) op.number (same prefixes.Fe is)

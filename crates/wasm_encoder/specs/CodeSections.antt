-- Functions and code sections that are built (WebAssembly Core 3.0, Code Section).
use Rattle.std.specs.Prelude.{◌≡◌, ℕ, ◌+◌, ◌^◌, ◌<◌, ◌≤◌, ◌⊎◌, List, [], ◌∷◌, ◌++◌, length, replicate, Option, Result, Ok, Err, IfOk, IfErr, OnErr, IsErrOf}
use Rattle.std.specs.List.{AllByRecursion, Any, flat_map}
use Rattle.wasm_types.specs.declared.types.value.ValType.{ValType}
use Rattle.wasm_codec.specs.declared.encode.EncodeError.{EncodeError}
use Rattle.wasm_codec.specs.declared.encode.EncodeError.TheVariants.{TooLong}
use Rattle.wasm_codec.specs.Encoding.{byte_list_bytes, IsCount}
use Rattle.wasm_instructions.specs.Appending.{CountedCall}
use Rattle.wasm_instructions.specs.formats.Instructions.{Instruction, MinimalInstructions, instruction, instructions_bytes}
use Rattle.wasm_instructions.specs.declared.table.call.Operands.{Operands}
use Rattle.wasm_code.specs.declared.code.CodeBody.{CodeBody}
use Rattle.wasm_code.specs.CodeCounts.{CountedBody, func_bytes}
use Rattle.wasm_code.specs.formats.CodeBodies.{local_group, code_body, code_section_body}
use Rattle.wasm_sections.specs.formats.ModuleSectionParts.{code}
use Rattle.wasm_sections.specs.SectionBytes.{IsSectionAfter}
use Rattle.wasm_encoder.specs.EncodedLists.{EncodedItems, StandsForAll, GainsEach, GivesItems, OfItems, IsMemoryOrTooLong, IsUncounted, body_bytes}
use denote.RattleType.{RattleType}
use Rattle.std.specs.Borrow.{u8}
use Rattle.std.specs.contracts.impls.GlobalAllocator.TheImpl.{ghosts}
use Rattle.wasm_instructions.specs.declared.table.call.Operands.TheVariants as operands
use Rattle.std.specs.contracts.alloc.Global as global
use Rattle.std.specs.contracts.vec.Vec as vec

-- The code body with these locals and these calls.
abbrev pub body_of : List (ℕ × ValType) → List Instruction → CodeBody
body_of locals calls = record { locals = locals; calls = calls }

-- The function stands for this body: its bytes are the locals and instructions, which can be written and are in range.
pub record FunctionStandsFor (function : List ℕ) (body : CodeBody) : Type 0 where
  pub bytes : function ≡ func_bytes body
  pub locals : IsCount (length body.locals)
  pub calls : AllByRecursion CountedCall body.calls
  pub locals_in_range : AllByRecursion local_group.InRange body.locals
  pub calls_in_range : AllByRecursion instruction.InRange body.calls

-- A call that makes a function without instructions; an iterator with this length gives its groups of locals.
pub record MakesFunction {S : Type 0} (gives : S → Option (ℕ × ValType) → S → Type 0) (locals : S) (len : ℕ) (result : Result (List ℕ) EncodeError) : Type 0 where
  -- Its groups of locals are those that the iterator gives until it ends.
  pub given : IfOk result (λ function. OfItems gives locals (λ groups. FunctionStandsFor function (body_of groups [])))
  -- If it is known what the iterator gives, as for `slice.iter().copied()`, these are the groups of locals.
  pub stands : (groups : List (ℕ × ValType)) → GivesItems gives locals groups → IfOk result (λ function. FunctionStandsFor function (body_of groups []))
  -- It fails with `Memory`, or with `TooLong` if there are too many groups.
  pub refused : IfErr result (IsMemoryOrTooLong (IsUncounted len))
  -- It fails with `TooLong` if there are too many groups.
  pub too_many : 2 ^ 32 ≤ len → IsErrOf result TooLong

-- The function, if the call succeeds.
abbrev pub made : List ℕ → Result (Unit {0}) EncodeError → Result (List ℕ) EncodeError
made function (Ok x) = Ok function
made function (Err e) = Err e

-- A call that removes the instructions of a function; an iterator with this length gives its groups of locals.
pub record Restarts {S : Type 0} (gives : S → Option (ℕ × ValType) → S → Type 0) (locals : S) (len : ℕ) (old new : List ℕ) (result : Result (Unit {0}) EncodeError) : Type 0 where
  -- The function is then one that was made of these locals, or it fails as the call does that makes one.
  pub makes : MakesFunction gives locals len (made new result)
  -- On error the function is unchanged.
  pub same : OnErr result (new ≡ old)

-- The types of the locals in these groups, one by one.
abbrev pub spread : List (ℕ × ValType) → List ValType
spread groups = flat_map (λ g. replicate g.0 g.1) groups

-- The first group, if there is one, has another type than this.
abbrev pub StartsOtherwise : ValType → List (ℕ × ValType) → Type 0
StartsOtherwise t [] = Unit {0}
StartsOtherwise t (g ∷ more) = t ≡ g.1 → ⊥

-- No group is empty, and neighbours have different types.
abbrev pub AreApart : List (ℕ × ValType) → Type 0
AreApart [] = Unit {0}
AreApart (g ∷ more) = (0 < g.0) × (StartsOtherwise g.1 more × AreApart more)

-- These groups are those of locals with these types.
pub record AreGroups (groups : List (ℕ × ValType)) (types : List ValType) : Type 0 where
  pub spread : spread groups ≡ types
  pub apart : AreApart groups

-- A call that makes a function with locals of these types.
pub record MakesLocals (types : List ValType) (result : Result (List ℕ) EncodeError) : Type 0 where
  -- Equal types that follow each other are a group of its locals.
  pub made : IfOk result (λ function. (groups : List (ℕ × ValType)) × (AreGroups groups types × FunctionStandsFor function (body_of groups [])))
  -- It fails with `Memory`, or with `TooLong` if there are too many locals.
  pub refused : IfErr result (IsMemoryOrTooLong (IsUncounted (length types)))

-- The body with these instructions at its end.
abbrev pub followed : CodeBody → List Instruction → CodeBody
followed body more = body_of body.locals (body.calls ++ more)

-- The new function is the old one with these instructions at its end.
pub record GoesOnWith (old : List ℕ) (more : List Instruction) (new : List ℕ) : Type 0 where
  pub bytes : new ≡ old ++ instructions_bytes more
  pub stands : (body : CodeBody) → FunctionStandsFor old body → FunctionStandsFor new (followed body more)

-- The new function is the old one with these bytes at its end. If they are the minimal encoding of instructions, it
-- goes on with these.
pub record GoesOnWithBytes (old added new : List ℕ) : Type 0 where
  pub bytes : new ≡ old ++ added
  pub stands : (more : List Instruction) → MinimalInstructions added more → (body : CodeBody) → FunctionStandsFor old body → FunctionStandsFor new (followed body more)

-- The section stands for these bodies: it has their number and encodings, and each can be written and is in range.
abbrev pub StandsForBodies : EncodedItems → List CodeBody → Type 0
StandsForBodies = StandsForAll code_body CountedBody

-- The body of the section encodes the code bodies that it stands for.
abbrev pub HoldsBodies : EncodedItems → Type 0
HoldsBodies section = (bodies : List CodeBody) → StandsForBodies section bodies → code_section_body.Encodes (body_bytes section) bodies

-- After the id, the section's size and body are the minimal encoding of the module's section with these bodies.
abbrev pub IsCodeSection : EncodedItems → Type 0
IsCodeSection section = (bodies : List CodeBody) → StandsForBodies section bodies → IsSectionAfter 10 (byte_list_bytes (body_bytes section)) (code bodies)

-- The new section is the old one and the body of this function.
pub record GainsFunction (old : EncodedItems) (function : List ℕ) (new : EncodedItems) : Type 0 where
  pub count : new.count ≡ old.count + 1
  pub bytes : new.bytes ≡ old.bytes ++ byte_list_bytes function
  pub stands : (before : List CodeBody) (body : CodeBody) → StandsForBodies old before → FunctionStandsFor function body → StandsForBodies new (before ++ body ∷ [])

-- The new section is the old one and these more bodies.
abbrev pub GainsBodies : EncodedItems → List CodeBody → EncodedItems → Type 0
GainsBodies = GainsEach code_body CountedBody

-- ---- functions that are too long to be written

-- A u32 doesn't count the items of the list in the operands.
abbrev pub UncountedList : Operands → Type 0
UncountedList (operands.BrTable labels default) = IsUncounted (length labels)
UncountedList (operands.Types types) = IsUncounted (length types)
UncountedList (operands.TryTable ty clauses) = IsUncounted (length clauses)
UncountedList (operands.Resume index handlers) = IsUncounted (length handlers)
UncountedList (operands.ResumeThrow index tag handlers) = IsUncounted (length handlers)
UncountedList o = ⊥

-- A u32 doesn't count the items of the call's list.
abbrev pub UncountedCall : Instruction → Type 0
UncountedCall c = UncountedList c.operands

-- The body has too many locals, a list in an instruction is too long, or it has too many bytes.
abbrev pub UncountedBody : CodeBody → Type 0
UncountedBody b = IsUncounted (length b.locals) ⊎ (Any UncountedCall b.calls ⊎ IsUncounted (length (func_bytes b)))

-- A list of bytes, as the logic holds it.
abbrev pub bytes_row : RattleType
bytes_row = vec.the_row u8 global.the_row ghosts

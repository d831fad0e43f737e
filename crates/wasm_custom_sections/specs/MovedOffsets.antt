-- Offsets of instructions in a function's body, and in the body's minimal encoding; branch hints that are moved from one
-- to the other (WebAssembly proposal, Branch Hinting).
use Rattle.std.specs.Prelude.{◌≡◌, ℕ, ◌<◌, ◌≤◌, List, [], ◌∷◌, ◌++◌, All, length, take}
use Rattle.wasm_types.specs.declared.types.value.ValType.{ValType}
use Rattle.wasm_instructions.specs.formats.Instructions.{Instruction}
use Rattle.wasm_code.specs.formats.CodeBodies.{function_code}
use Rattle.wasm_custom_sections.specs.declared.branch_hints.BranchHint.{BranchHint}
use Rattle.wasm_custom_sections.specs.declared.moved_hints.offsets.Front.{Front}
use Rattle.wasm_custom_sections.specs.declared.moved_hints.offsets.Fronts.{Fronts}

-- Each of the first list is in this relation to that of the second at its place, and no list has more.
pub data Each {A : Type 0} (R : A → A → Type 0) : List A → List A → Type 0 where
  none : Each R [] []
  more : {x y : A} {xs ys : List A} → R x y → Each R xs ys → Each R (x ∷ xs) (y ∷ ys)

-- ---- one function

-- The locals of a function, and its instructions.
abbrev pub Code : Type 0
Code = List (ℕ × ValType) × List Instruction

-- An instruction begins at this offset of a function's body, after the body's size. So many instructions precede it.
pub record BeginsAt (body : List ℕ) (number offset : ℕ) : Type 0 where
  pub locals : List (ℕ × ValType)
  pub before : List Instruction
  pub front : List ℕ
  pub rest : List ℕ
  pub parts : body ≡ front ++ rest
  pub encodes : function_code.Encodes front (locals, before)
  pub counts : length before ≡ number
  pub offset_is : length front ≡ offset
  pub goes_on : 0 < length rest

-- No instruction begins at this offset of the body.
abbrev pub NoInstructionAt : List ℕ → ℕ → Type 0
NoInstructionAt body offset = (number : ℕ) → BeginsAt body number offset → ⊥

-- An instruction begins at the offset `old` of this body. The minimal encoding of the locals and instructions before it
-- has `new` bytes, so the same instruction begins there in the body's minimal encoding.
pub record MovesOffset (body : List ℕ) (old new : ℕ) : Type 0 where
  pub number : ℕ
  pub stood : BeginsAt body number old
  pub new_is : length (function_code.bytes (stood.locals, stood.before)) ≡ new
  pub stands : (code : Code) → function_code.Encodes body code → BeginsAt (function_code.bytes code) number new

-- The hint for the same instruction of this body, once the body is minimally encoded.
pub record MovesHint (body : List ℕ) (old new : BranchHint) : Type 0 where
  pub same : new.likely ≡ old.likely
  pub offset : MovesOffset body old.branch_func_offset new.branch_func_offset

-- ---- inside

-- The first bytes of the body are locals and instructions, whose minimal encoding is so long.
pub record IsFront (body : List ℕ) (front : Front) : Type 0 where
  pub code : Code
  pub within : front.len ≤ length body
  pub encodes : function_code.Encodes (take front.len body) code
  pub minimal_is : length (function_code.bytes code) ≡ front.minimal
  pub no_longer : front.minimal ≤ front.len

-- The first bytes of the body are its locals. Each instruction begins after them.
pub record AreLocals (body : List ℕ) (front : Front) : Type 0 where
  pub front_is : IsFront body front
  pub first : (number offset : ℕ) → BeginsAt body number offset → front.len ≤ offset

-- The first bytes of the body, up to this offset, at which an instruction begins.
pub record IsFrontUpTo (body : List ℕ) (offset : ℕ) (front : Front) : Type 0 where
  pub front_is : IsFront body front
  pub len_is : front.len ≡ offset
  pub goes_on : offset < length body

-- These are fronts of the body.
pub record AreFronts (body : List ℕ) (fronts : Fronts) : Type 0 where
  pub locals : AreLocals body fronts.locals
  pub last : IsFront body fronts.last
  pub checkpoints : All (IsFront body) fronts.checkpoints.items

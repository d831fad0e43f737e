-- The laws of the formats of opcodes, operands and instructions, and of lists of instructions to the end.
use Rattle.std.proofs.Common.{◌↔◌, ◌≡◌, ℕ, ◌+◌, ◌<◌, List, [], ◌∷◌, ◌++◌, length, take, get_or, Option, Some, None, refl, sym, ap, subst, ◌∙◌, lit≤}
use Rattle.std.proofs.lemmas.List.{take_more, flat_map_more}
use Rattle.std.specs.List.{AllByRecursion}
use Rattle.wasm_instructions.specs.declared.table.opcode.Kind.{Kind}
use Rattle.wasm_instructions.specs.declared.table.opcode.Kind.TheVariants as kinds
use Rattle.wasm_instructions.specs.declared.table.call.Operands.{Operands}
use Rattle.wasm_instructions.specs.declared.table.call.Operands.TheVariants as operands
use Rattle.wasm_codec.proofs.Joining.{Joined-more, WritesMinimally-joined}
use Rattle.wasm_codec.specs.formats.Grammar.{TakesBytes}
use Rattle.wasm_codec.specs.Encoding.{IsMinimalOrLonger}
use Rattle.wasm_codec.specs.Places.{place, keeps}
use Rattle.wasm_codec.specs.formats.Combinators.{Format, by_kind}
use Rattle.wasm_codec.proofs.FormatLaws.{Every-made, Every-after, Every-either, Lawful-byte, Lawful-nothing, Lawful-made, Lawful-then, Lawful-both, Lawful-items, Lawful-by-kind, Lawful-variant-after, Lawful-or-else, Lawful-u32, Lawful-s32, takes_bytes}
use Rattle.wasm_codec.proofs.RawFormatLaws.{Lawful-s64, Lawful-byte-where, Lawful-little-endian}
use Rattle.wasm_codec.proofs.MinimalIfLaws.{joined_minimal_only}
use Rattle.wasm_types.proofs.TypeFormatLaws.{Lawful-heap-type, Lawful-val-type}
use Rattle.wasm_instructions.specs.formats.Operands.{ieee32, ieee64}
use Rattle.wasm_instructions.specs.formats.Opcodes.{opcode_kind}
use Rattle.wasm_instructions.specs.formats.Instructions.{Instruction}
use Rattle.wasm_instructions.specs.formats.Opcodes.{without_prefix, after_fb, after_fc, after_fd, after_fe}
use Rattle.wasm_instructions.specs.Instructions.{kind_of, IsCall}
use Rattle.wasm_instructions.specs.OperandParts.{fb_part, fc_part, fd_part, fe_part, one_byte_part, block_part, index_part, two_indexes_part, br_table_part, types_part, try_table_part, mem_part, i32_part, i64_part, f32_part, f64_part, heap_part, resume_part, resume_throw_part, cast_part, v128_part, shuffle_part, lane_part, mem_lane_part, order_part, order_index_part, order_two_indexes_part}
use Rattle.wasm_instructions.specs.formats.Instructions.{is_one_byte, opcode, cast_of, operands_format, instruction_of, call_bytes, with_bytes, instruction, Instructions, instructions_bytes, MinimalInstructions}
use Rattle.wasm_instructions.proofs.OperandFormatLaws.{Lawful-block-type, Lawful-catch, Lawful-handle, Lawful-castop, Lawful-mem-arg, Lawful-ordering, Lawful-vector, Lawful-lanes}
use Rattle.wasm_codec.specs.Lawful.{WritesMinimally, IsLawful}

-- ---- opcodes

pub Lawful-opcode : IsLawful opcode
unfolding opcode
Lawful-opcode =
    (Lawful-variant-after 0xfb after_fb fb_part (λ n. refl) (lit≤ tt) refl
    (Every-either (Every-after (Every-made (λ n. refl))) (Every-either (Every-after (Every-made (λ n. refl))) (Every-either (Every-after (Every-made (λ n. refl))) (Every-made (λ n. refl))))) Lawful-u32
    (Lawful-variant-after 0xfc after_fc fc_part (λ n. refl) (lit≤ tt) refl
    (Every-either (Every-after (Every-made (λ n. refl))) (Every-either (Every-after (Every-made (λ n. refl))) (Every-made (λ n. refl)))) Lawful-u32
    (Lawful-variant-after 0xfd after_fd fd_part (λ n. refl) (lit≤ tt) refl
    (Every-either (Every-after (Every-made (λ n. refl))) (Every-made (λ n. refl))) Lawful-u32
    (Lawful-variant-after 0xfe after_fe fe_part (λ n. refl) (lit≤ tt) refl (Every-made (λ n. refl)) Lawful-u32
    (Lawful-or-else refl (Lawful-made without_prefix one_byte_part (λ n. refl) (Lawful-byte-where is_one_byte))))))).lawful

-- ---- operands

pub Lawful-operands : (k : Kind) → IsLawful (operands_format k)
unfolding operands_format
Lawful-operands kinds.None = Lawful-nothing operands.None
Lawful-operands kinds.Block = Lawful-made operands.Block block_part (λ ty. refl) Lawful-block-type
Lawful-operands kinds.Index = Lawful-made operands.Index index_part (λ n. refl) Lawful-u32
Lawful-operands kinds.TwoIndexes = Lawful-made (λ p. operands.TwoIndexes p.0 p.1) two_indexes_part (λ p. refl) (Lawful-both Lawful-u32 Lawful-u32)
Lawful-operands kinds.BrTable = Lawful-made (λ p. operands.BrTable p.0 p.1) br_table_part (λ p. refl) (Lawful-both (Lawful-items Lawful-u32) Lawful-u32)
Lawful-operands kinds.TryTable = Lawful-made (λ p. operands.TryTable p.0 p.1) try_table_part (λ p. refl) (Lawful-both Lawful-block-type (Lawful-items Lawful-catch))
Lawful-operands kinds.Cast = Lawful-made cast_of cast_part (λ p. refl) (Lawful-both Lawful-castop (Lawful-both Lawful-u32 (Lawful-both Lawful-heap-type Lawful-heap-type)))
Lawful-operands kinds.Resume = Lawful-made (λ p. operands.Resume p.0 p.1) resume_part (λ p. refl) (Lawful-both Lawful-u32 (Lawful-items Lawful-handle))
Lawful-operands kinds.ResumeThrow = Lawful-made (λ p. operands.ResumeThrow p.0 p.1.0 p.1.1) resume_throw_part (λ p. refl) (Lawful-both Lawful-u32 (Lawful-both Lawful-u32 (Lawful-items Lawful-handle)))
Lawful-operands kinds.Heap = Lawful-made operands.Heap heap_part (λ ty. refl) Lawful-heap-type
Lawful-operands kinds.Types = Lawful-made operands.Types types_part (λ types. refl) (Lawful-items Lawful-val-type)
Lawful-operands kinds.Mem = Lawful-made operands.Mem mem_part (λ arg. refl) Lawful-mem-arg
Lawful-operands kinds.I32 = Lawful-made operands.I32 i32_part (λ z. refl) Lawful-s32
Lawful-operands kinds.I64 = Lawful-made operands.I64 i64_part (λ z. refl) Lawful-s64
Lawful-operands kinds.F32 = Lawful-made (λ bits. operands.F32 (ieee32 bits)) f32_part (λ n. refl) (Lawful-little-endian 4)
Lawful-operands kinds.F64 = Lawful-made (λ bits. operands.F64 (ieee64 bits)) f64_part (λ n. refl) (Lawful-little-endian 8)
Lawful-operands kinds.V128 = Lawful-made operands.V128 v128_part (λ z. refl) Lawful-vector
Lawful-operands kinds.Shuffle = Lawful-made operands.Shuffle shuffle_part (λ v. refl) Lawful-lanes
Lawful-operands kinds.Lane = Lawful-made operands.Lane lane_part (λ b. refl) Lawful-byte
Lawful-operands kinds.MemLane = Lawful-made (λ p. operands.MemLane p.0 p.1) mem_lane_part (λ p. refl) (Lawful-both Lawful-mem-arg Lawful-byte)
Lawful-operands kinds.Order = Lawful-made operands.Order order_part (λ o. refl) Lawful-ordering
Lawful-operands kinds.OrderIndex = Lawful-made (λ p. operands.OrderIndex p.0 p.1) order_index_part (λ p. refl) (Lawful-both Lawful-ordering Lawful-u32)
Lawful-operands kinds.OrderTwoIndexes = Lawful-made (λ p. operands.OrderTwoIndexes p.0 p.1.0 p.1.1) order_two_indexes_part (λ p. refl) (Lawful-both Lawful-ordering (Lawful-both Lawful-u32 Lawful-u32))

-- ---- instructions

-- what is encoded has the kind
has_kind : (k : Kind) (back : List ℕ) (o : Operands) → (operands_format k).Encodes back o → kind_of o ≡ k
unfolding operands_format
has_kind kinds.None back o g = sym (ap kind_of g.1)
has_kind k back o g = sym (ap kind_of g.2)

kind_in_range : (k : Kind) (o : Operands) → (operands_format k).InRange o → kind_of o ≡ k
kind_in_range k o fits = has_kind k ((operands_format k).bytes o) o ((Lawful-operands k).minimal.encodes o fits)

Lawful-written : {A : Type 0} (bytes : A → List ℕ) {F : Format A} → ((v : A) → F.InRange v → F.bytes v ≡ bytes v) → IsLawful F → IsLawful (with_bytes bytes F)
Lawful-written {A} bytes {F} same r = record {
  reads = record {
    sound = r.reads.sound;
    complete = λ prefix v rest s g. r.reads.complete prefix v rest s g ∙ ap (λ (t : List ℕ). Some (v, place (keeps s prefix t) rest)) (same v (r.in_range prefix v g));
  };
  minimal = record {
    encodes = λ v fits. subst (λ (t : List ℕ). F.Encodes t v) (same v fits) (r.minimal.encodes v fits);
    again = λ prefix v g. subst (λ (t : List ℕ). F.Encodes t v) (same v (r.in_range prefix v g)) (r.minimal.again prefix v g);
    least = λ prefix v g. subst (IsMinimalOrLonger prefix) (same v (r.in_range prefix v g)) (r.minimal.least prefix v g);
  };
  in_range = r.in_range;
  are_bytes = r.are_bytes;
  begins = r.begins;
}

-- operands in range have the kind of their opcode
pub of_kind : (i : Instruction) (o : Option Kind) → (by_kind operands_format o).InRange i.operands → opcode.bytes i.op ++ (by_kind operands_format o).bytes i.operands ≡ call_bytes i
of_kind i None fits = absurd fits
of_kind i (Some k) fits = ap (λ (k : Kind). opcode.bytes i.op ++ (operands_format k).bytes i.operands) (sym (kind_in_range k i.operands fits))

pub Lawful-instruction : IsLawful instruction
unfolding instruction
Lawful-instruction = Lawful-written call_bytes (λ i fits. of_kind i (opcode_kind i.op) fits.0.1) (Lawful-made instruction_of (λ i. Some (i.op, i.operands)) (λ p. refl) (Lawful-then Lawful-opcode (λ op. Lawful-by-kind Lawful-operands (opcode_kind op))))

-- no instruction is encoded by no bytes
pub instruction_takes : TakesBytes instruction.Encodes
unfolding instruction opcode
instruction_takes = takes_bytes Lawful-instruction refl

pub encodes_call : (bytes : List ℕ) (i : Instruction) → instruction.Encodes bytes i → IsCall i.op i.operands
unfolding instruction
encodes_call bytes i g = subst (λ (i : Instruction). IsCall i.op i.operands) g.2 (by (opcode_kind g.0.0) refl g.1.4) where
  by : (o : Option Kind) → opcode_kind g.0.0 ≡ o → (by_kind operands_format o).Encodes g.1.1 g.0.1 → opcode_kind g.0.0 ≡ Some (kind_of g.0.1)
  by None is h = absurd h
  by (Some k) is h = is ∙ ap (λ (k : Kind). Some k) (sym (has_kind k g.1.1 g.0.1 h))

-- ---- instructions to the end

pub WritesMinimally-instructions : WritesMinimally Instructions (AllByRecursion instruction.InRange) instructions_bytes
WritesMinimally-instructions = WritesMinimally-joined Lawful-instruction.minimal

-- instructions in their minimal encodings are the minimal encoding of their list
pub are_minimal : (bytes : List ℕ) (calls : List Instruction) → MinimalInstructions bytes calls ↔ (Instructions bytes calls × (bytes ≡ instructions_bytes calls))
are_minimal = joined_minimal_only Lawful-instruction

-- one instruction more at the end
pub record More (calls : List Instruction) (i : ℕ) (old new : List ℕ) : Type 0 where
  pub bytes : new ≡ old ++ instructions_bytes (take (i + 1) calls)
  pub encodes : Instructions (instructions_bytes (take (i + 1) calls)) (take (i + 1) calls)

pub instructions_more : (calls : List Instruction) (i : ℕ) (call : Instruction) (old mid new : List ℕ) → i < length calls → get_or calls i call ≡ call → mid ≡ old ++ instructions_bytes (take i calls) → Instructions (instructions_bytes (take i calls)) (take i calls)
    → new ≡ mid ++ instruction.bytes call → instruction.Encodes (instruction.bytes call) call → More calls i old new
instructions_more calls i call old mid new lt at so_far encoded more one =
    let longer : take (i + 1) calls ≡ take i calls ++ call ∷ [] = take_more calls i call lt ∙ ap (λ (k : Instruction). take i calls ++ k ∷ []) at in
    let joined : instructions_bytes (take i calls ++ call ∷ []) ≡ instructions_bytes (take i calls) ++ instruction.bytes call = sym (flat_map_more instruction.bytes [] (take i calls) call) in
    record {
      bytes = rw longer (more ∙ ap (λ (t : List ℕ). t ++ instruction.bytes call) so_far ∙ flat_map_more instruction.bytes old (take i calls) call);
      encodes = rw longer (subst (λ (t : List ℕ). Instructions t (take i calls ++ call ∷ [])) (sym joined) (Joined-more instruction.Encodes (instructions_bytes (take i calls)) (take i calls) (instruction.bytes call) call encoded one));
    }

-- the laws of instructions, for functions that name them
pub ruleset instruction_laws = (Lawful-instruction, instruction_takes)

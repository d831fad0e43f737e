-- Mapped operands have the kind and the alignment of the operands.
use Rattle.std.proofs.Common.{◌≡◌, ◌∙◌, Some, ap, refl, sym}
use Rattle.wasm_instructions.specs.declared.table.opcode.Opcode.{Opcode}
use Rattle.wasm_instructions.specs.declared.table.call.Operands.{Operands}
use Rattle.wasm_instructions.specs.declared.table.call.Operands.TheVariants as operands
use Rattle.wasm_instructions.specs.Instructions.{IsAligned, IsCall, NumbersInRange, kind_of}
use Rattle.wasm_modules.specs.MappedIndices.{NewIndices, mapped_operands}

same_kind : (new : NewIndices) (op : Opcode) (o : Operands) → kind_of (mapped_operands new op o) ≡ kind_of o
same_kind new op operands.None = refl
same_kind new op (operands.Block ty) = refl
same_kind new op (operands.Index index) = refl
same_kind new op (operands.TwoIndexes first second) = refl
same_kind new op (operands.BrTable labels default) = refl
same_kind new op (operands.Types types) = refl
same_kind new op (operands.TryTable ty clauses) = refl
same_kind new op (operands.Mem arg) = refl
same_kind new op (operands.I32 value) = refl
same_kind new op (operands.I64 value) = refl
same_kind new op (operands.F32 value) = refl
same_kind new op (operands.F64 value) = refl
same_kind new op (operands.Heap ty) = refl
same_kind new op (operands.Resume index handlers) = refl
same_kind new op (operands.ResumeThrow index tag handlers) = refl
same_kind new op (operands.Cast label before after) = refl
same_kind new op (operands.V128 value) = refl
same_kind new op (operands.Shuffle lanes) = refl
same_kind new op (operands.Lane lane) = refl
same_kind new op (operands.MemLane arg lane) = refl
same_kind new op (operands.Order ordering) = refl
same_kind new op (operands.OrderIndex ordering index) = refl
same_kind new op (operands.OrderTwoIndexes ordering first second) = refl

pub mapped_fits : (new : NewIndices) (op : Opcode) (o : Operands) → IsCall op o → IsCall op (mapped_operands new op o)
mapped_fits new op o fits = fits ∙ ap Some (sym (same_kind new op o))

pub mapped_aligned : (new : NewIndices) (op : Opcode) (o : Operands) → NumbersInRange o → IsAligned (mapped_operands new op o)
mapped_aligned new op (operands.Mem arg) fits = fits.align
mapped_aligned new op (operands.MemLane arg lane) fits = fits.0.align
mapped_aligned new op operands.None fits = tt
mapped_aligned new op (operands.Block ty) fits = tt
mapped_aligned new op (operands.Index index) fits = tt
mapped_aligned new op (operands.TwoIndexes first second) fits = tt
mapped_aligned new op (operands.BrTable labels default) fits = tt
mapped_aligned new op (operands.Types types) fits = tt
mapped_aligned new op (operands.TryTable ty clauses) fits = tt
mapped_aligned new op (operands.I32 value) fits = tt
mapped_aligned new op (operands.I64 value) fits = tt
mapped_aligned new op (operands.F32 value) fits = tt
mapped_aligned new op (operands.F64 value) fits = tt
mapped_aligned new op (operands.Heap ty) fits = tt
mapped_aligned new op (operands.Resume index handlers) fits = tt
mapped_aligned new op (operands.ResumeThrow index tag handlers) fits = tt
mapped_aligned new op (operands.Cast label before after) fits = tt
mapped_aligned new op (operands.V128 value) fits = tt
mapped_aligned new op (operands.Shuffle lanes) fits = tt
mapped_aligned new op (operands.Lane lane) fits = tt
mapped_aligned new op (operands.Order ordering) fits = tt
mapped_aligned new op (operands.OrderIndex ordering index) fits = tt
mapped_aligned new op (operands.OrderTwoIndexes ordering first second) fits = tt

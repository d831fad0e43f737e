-- A call is in the range of its format by the types of its numbers and by the facts about its lists. Then the
-- consequences of being in range.
use Rattle.std.proofs.Common.{ne_eqb, arith, ℕ, Bool, true, false, List, [], ◌∷◌, Option, Result, Ok, Err, OnOk, refl, subst}
use Rattle.wasm_types.specs.formats.Types.{val_type}
use Rattle.wasm_types.proofs.WrittenTypes.{heap_in_range, val_in_range}
use Rattle.wasm_codec.specs.Encoding.{IsMinimal}
use Rattle.wasm_codec.proofs.NumberLaws.{written}
use Rattle.wasm_instructions.specs.declared.operands.control.BlockType.{BlockType}
use Rattle.wasm_instructions.specs.declared.operands.control.BlockType.TheVariants as blocks
use Rattle.std.specs.List.{AllByRecursion}
use Rattle.wasm_codec.proofs.ListReading.{IsBytes-from}
use Rattle.wasm_instructions.specs.declared.operands.control.Catch.{Catch}
use Rattle.wasm_instructions.specs.declared.operands.control.Catch.TheVariants as catches
use Rattle.wasm_instructions.specs.declared.operands.control.Handle.{Handle}
use Rattle.wasm_instructions.specs.declared.operands.control.Handle.TheVariants as handles
use Rattle.wasm_instructions.specs.declared.operands.memory.MemArg.{MemArg}
use Rattle.wasm_instructions.specs.declared.operands.memory.Ordering.{Ordering}
use Rattle.wasm_instructions.specs.declared.operands.memory.Ordering.TheVariants as orderings
use Rattle.wasm_instructions.specs.declared.table.opcode.Prefix.{Prefix}
use Rattle.wasm_instructions.specs.declared.table.opcode.Prefix.TheVariants as prefixes
use Rattle.wasm_instructions.specs.declared.table.opcode.Opcode.{Opcode}
use Rattle.wasm_instructions.specs.declared.table.opcode.Kind.{Kind}
use Rattle.wasm_instructions.specs.declared.table.call.Operands.{Operands}
use Rattle.wasm_instructions.specs.declared.table.call.Operands.TheVariants as operands
use Rattle.wasm_instructions.specs.Operands.{ValTypeFits, BlockTypeFits, CatchFits, HandleFits}
use Rattle.wasm_instructions.specs.formats.Instructions.{Instruction, call, opcode, operands_format, instruction}
use Rattle.wasm_instructions.specs.Instructions.{NumbersInRange, ItemsInRange, IsCounted, IsCall, IsShort, kind_of}
use Rattle.wasm_codec.specs.formats.Combinators.{little_endian, by_kind}
use Rattle.wasm_instructions.specs.OperandParts.{MemArgInRange}
use Rattle.wasm_instructions.specs.formats.Operands.{block_type, catch_clause, handle_clause, castop, mem_arg, ordering, vector, lanes}
use Rattle.wasm_instructions.proofs.OperandFormatLaws.{Lawful-block-type, Lawful-mem-arg, Lawful-catch, Lawful-handle, Lawful-ordering}
use Rattle.wasm_instructions.proofs.InstructionFormatLaws.{Lawful-instruction, encodes_call}
use Rattle.wasm_instructions.proofs.OpcodeLaws.{in_table_short}

pub block_in_range : (ty : BlockType) → BlockTypeFits ty → block_type.InRange ty
unfolding block_type
block_in_range blocks.Empty fits = refl
block_in_range (blocks.Result ty) fits = (val_in_range ty fits, refl)
block_in_range (blocks.FunctionType index) fits = (fits, refl)

pub mem_arg_in_range : (arg : MemArg) → MemArgInRange arg → mem_arg.InRange arg
unfolding mem_arg
mem_arg_in_range arg fits = fits

catch_in_range : (c : Catch) → CatchFits c → catch_clause.InRange c
unfolding catch_clause
catch_in_range (catches.One tag label) fits = (fits, refl)
catch_in_range (catches.OneRef tag label) fits = (fits, refl)
catch_in_range (catches.All label) fits = (fits, refl)
catch_in_range (catches.AllRef label) fits = (fits, refl)

handle_in_range : (h : Handle) → HandleFits h → handle_clause.InRange h
unfolding handle_clause
handle_in_range (handles.OnLabel tag label) fits = (fits, refl)
handle_in_range (handles.OnSwitch tag) fits = (fits, refl)

all_of : {A : Type 0} (R S : A → Type 0) (vs : List A) → ((v : A) → R v → S v) → AllByRecursion R vs → AllByRecursion S vs
all_of R S [] h fits = tt
all_of R S (v ∷ vs) h fits = (h v fits.0, all_of R S vs h fits.1)

castop_in_range : (p : Bool × Bool) → castop.InRange p
unfolding castop
castop_in_range (false, false) = refl
castop_in_range (true, false) = refl
castop_in_range (false, true) = refl
castop_in_range (true, true) = refl

ordering_in_range : (o : Ordering) → ordering.InRange o
unfolding ordering
ordering_in_range orderings.SeqCst = refl
ordering_in_range o = refl

pub operands_in_range : (o : Operands) → NumbersInRange o → ItemsInRange o → IsCounted o → (operands_format (kind_of o)).InRange o
unfolding operands_format little_endian vector lanes
operands_in_range operands.None fits in_lists counted = refl
operands_in_range (operands.Block ty) fits in_lists counted = (block_in_range ty fits, refl)
operands_in_range (operands.BrTable labels default) fits in_lists counted = (((counted, in_lists), fits), refl)
operands_in_range (operands.Types types) fits in_lists counted = ((counted, all_of ValTypeFits val_type.InRange types val_in_range in_lists), refl)
operands_in_range (operands.TryTable ty clauses) fits in_lists counted = ((block_in_range ty fits, (counted, all_of CatchFits catch_clause.InRange clauses catch_in_range in_lists)), refl)
operands_in_range (operands.Mem arg) fits in_lists counted = (mem_arg_in_range arg fits, refl)
operands_in_range (operands.Heap ty) fits in_lists counted = (heap_in_range ty fits, refl)
operands_in_range (operands.Resume index handlers) fits in_lists counted = ((fits, (counted, all_of HandleFits handle_clause.InRange handlers handle_in_range in_lists)), refl)
operands_in_range (operands.ResumeThrow index tag handlers) fits in_lists counted = ((fits.0, (fits.1, (counted, all_of HandleFits handle_clause.InRange handlers handle_in_range in_lists))), refl)
operands_in_range (operands.Cast label before after) fits in_lists counted = ((castop_in_range (before.nullable, after.nullable), (fits.0, (heap_in_range before.heap_type fits.1, heap_in_range after.heap_type fits.2))), refl)
operands_in_range (operands.V128 value) fits in_lists counted = ((fits, refl), refl)
operands_in_range (operands.Shuffle lanes) fits in_lists counted = ((fits.0, IsBytes-from lanes fits.1), refl)
operands_in_range (operands.MemLane arg lane) fits in_lists counted = ((mem_arg_in_range arg fits.0, fits.1), refl)
operands_in_range (operands.Order o) fits in_lists counted = (ordering_in_range o, refl)
operands_in_range (operands.OrderIndex o index) fits in_lists counted = ((ordering_in_range o, fits), refl)
operands_in_range (operands.OrderTwoIndexes o first second) fits in_lists counted = ((ordering_in_range o, fits), refl)
operands_in_range o fits in_lists counted = (fits, refl)

opcode_in_range : (op : Opcode) → IsShort op → opcode.InRange op
unfolding opcode
opcode_in_range op short = by op.prefix op.number short where
  by : (p : Prefix) (n : ℕ) → let o : Opcode = record { prefix = p; number = n } in IsShort o → opcode.InRange o
  by prefixes.None n short = ((omega arith, rw (ne_eqb n 0xfb (omega arith), ne_eqb n 0xfc (omega arith), ne_eqb n 0xfd (omega arith), ne_eqb n 0xfe (omega arith)) refl), refl)
  by prefixes.Fb n short = (omega arith, refl)
  by prefixes.Fc n short = (omega arith, refl)
  by prefixes.Fd n short = (omega arith, refl)
  by prefixes.Fe n short = (omega arith, refl)

pub call_in_range : (op : Opcode) (o : Operands) → IsCall op o → NumbersInRange o → ItemsInRange o → IsCounted o → instruction.InRange (call op o)
unfolding instruction
call_in_range op o is fits in_lists counted = ((opcode_in_range op (in_table_short op (kind_of o) is), rw is (operands_in_range o fits in_lists counted)), refl)

pub is_call : (op : Opcode) (o : Operands) → instruction.InRange (call op o) → IsCall op o
is_call op o fits = encodes_call (instruction.bytes (call op o)) (call op o) (Lawful-instruction.minimal.encodes (call op o) fits)

lists_counted : (o : Operands) → (operands_format (kind_of o)).InRange o → IsCounted o
unfolding operands_format
lists_counted (operands.BrTable labels default) fits = fits.0.0.0
lists_counted (operands.Types types) fits = fits.0.0
lists_counted (operands.TryTable ty clauses) fits = fits.0.1.0
lists_counted (operands.Resume index handlers) fits = fits.0.1.0
lists_counted (operands.ResumeThrow index tag handlers) fits = fits.0.1.1.0
lists_counted o fits = tt

-- a u32 counts the items of its list
pub is_counted : (i : Instruction) → instruction.InRange i → IsCounted i.operands
unfolding instruction
is_counted i fits = lists_counted i.operands (subst (λ (k : Option Kind). (by_kind operands_format k).InRange i.operands) (is_call i.op i.operands fits) fits.0.1)

-- ---- what is written is the minimal encoding

pub block_written : (ty : BlockType) → BlockTypeFits ty → IsMinimal block_type.Encodes block_type.bytes ty
block_written ty fits = written Lawful-block-type.minimal ty (block_in_range ty fits)

pub mem_arg_written : (arg : MemArg) → MemArgInRange arg → IsMinimal mem_arg.Encodes mem_arg.bytes arg
mem_arg_written arg fits = written Lawful-mem-arg.minimal arg (mem_arg_in_range arg fits)

pub catch_written : (c : Catch) → CatchFits c → IsMinimal catch_clause.Encodes catch_clause.bytes c
catch_written c fits = written Lawful-catch.minimal c (catch_in_range c fits)

pub handle_written : (h : Handle) → HandleFits h → IsMinimal handle_clause.Encodes handle_clause.bytes h
handle_written h fits = written Lawful-handle.minimal h (handle_in_range h fits)

pub ordering_written : (o : Ordering) → IsMinimal ordering.Encodes ordering.bytes o
ordering_written o = written Lawful-ordering.minimal o (ordering_in_range o)

pub call_written : {T E : Type 0} (r : Result T E) (c : Instruction) → OnOk r (instruction.Encodes (instruction.bytes c) c) → OnOk r (IsMinimal instruction.Encodes instruction.bytes c)
call_written (Err e) c g = tt
call_written (Ok x) c g = record { encodes = g; least = λ bytes other. Lawful-instruction.minimal.least bytes c other }

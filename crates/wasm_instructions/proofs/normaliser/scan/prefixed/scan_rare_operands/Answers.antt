use Rattle.std.proofs.Common.{refl}
use Rattle.wasm_codec.specs.formats.Combinators.{a_byte, items, u32}
use Rattle.wasm_codec.proofs.ScanLaws.{from_start}
use Rattle.wasm_types.specs.formats.Types.{heap_type, val_type}
use Rattle.wasm_instructions.specs.declared.table.call.Operands.TheVariants as operands
use Rattle.wasm_instructions.specs.OperandParts.{block_part, heap_part, index_part, lane_part, mem_part, order_part, shuffle_part, types_part, v128_part}
use Rattle.wasm_instructions.specs.formats.Instructions.{operands_format}
use Rattle.wasm_instructions.specs.formats.Operands.{block_type, lanes, mem_arg, ordering, vector}
use Rattle.wasm_instructions.proofs.ScannedCalls.{none_scanned}
use Rattle.wasm_instructions.proofs.ScannedPrefixed.{found_made, two_scanned}
use Rattle.wasm_instructions.proofs.normaliser.scan.prefixed.scan_rare_operands.Goals as goal

pub returns-in-None : goal.returns-in-None
returns-in-None c = rw c.in-None.is (none_scanned c.args.bytes.now)

pub returns-in_ok-second-in-TwoIndexes : goal.returns-in_ok-second-in-TwoIndexes
returns-in_ok-second-in-TwoIndexes c =
    let bytes = c.args.bytes.now in
    let m = c.in_ok-first-in-TwoIndexes.first in
    let n = c.in_ok-second-in-TwoIndexes.second in
    rw c.in-TwoIndexes.is (two_scanned bytes m n c.in_ok-first-in-TwoIndexes.ensures (from_start u32 bytes m n c.in_ok-second-in-TwoIndexes.ensures))

pub returns-in-Index : goal.returns-in-Index
unfolding operands_format
returns-in-Index c = rw c.in-Index.is (found_made operands.Index index_part u32 (λ a. refl) c.args.bytes.now c.scan_index.result c.scan_index.ensures)

pub returns-in-Block : goal.returns-in-Block
unfolding operands_format
returns-in-Block c = rw c.in-Block.is (found_made operands.Block block_part block_type (λ a. refl) c.args.bytes.now c.scan_any_block_type.result c.scan_any_block_type.ensures)

pub returns-in-Types : goal.returns-in-Types
unfolding operands_format
returns-in-Types c = rw c.in-Types.is (found_made operands.Types types_part (items val_type) (λ a. refl) c.args.bytes.now c.scan_one_type.result c.scan_one_type.ensures)

pub returns-in-Mem : goal.returns-in-Mem
unfolding operands_format
returns-in-Mem c = rw c.in-Mem.is (found_made operands.Mem mem_part mem_arg (λ a. refl) c.args.bytes.now c.scan_any_mem_arg.result c.scan_any_mem_arg.ensures)

pub returns-in-Heap : goal.returns-in-Heap
unfolding operands_format
returns-in-Heap c = rw c.in-Heap.is (found_made operands.Heap heap_part heap_type (λ a. refl) c.args.bytes.now c.scan_heap_type.result c.scan_heap_type.ensures)

pub returns-in-V128 : goal.returns-in-V128
unfolding operands_format
returns-in-V128 c = rw c.in-V128.is (found_made operands.V128 v128_part vector (λ a. refl) c.args.bytes.now c.scan_vector.result c.scan_vector.ensures)

pub returns-in-Shuffle : goal.returns-in-Shuffle
unfolding operands_format
returns-in-Shuffle c = rw c.in-Shuffle.is (found_made operands.Shuffle shuffle_part lanes (λ a. refl) c.args.bytes.now c.scan_lanes.result c.scan_lanes.ensures)

pub returns-in-Lane : goal.returns-in-Lane
unfolding operands_format
returns-in-Lane c = rw c.in-Lane.is (found_made operands.Lane lane_part a_byte (λ a. refl) c.args.bytes.now c.scan_byte.result c.scan_byte.ensures)

pub returns-in-Order : goal.returns-in-Order
unfolding operands_format
returns-in-Order c = rw c.in-Order.is (found_made operands.Order order_part ordering (λ a. refl) c.args.bytes.now c.scan_ordering.result c.scan_ordering.ensures)

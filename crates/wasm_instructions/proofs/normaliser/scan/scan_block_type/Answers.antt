use Rattle.std.proofs.Common.{Some, arith}
use Rattle.wasm_codec.specs.declared.rewriter.scan.Scanned.TheVariants as scanned
use Rattle.wasm_codec.specs.Scanning.{Scans}
use Rattle.wasm_instructions.specs.formats.Operands.{block_type}
use Rattle.wasm_instructions.proofs.ScannedCalls.{first_is, empty_scanned, f64_scanned, f32_scanned, i64_scanned, i32_scanned}
use Rattle.wasm_instructions.proofs.normaliser.scan.scan_block_type.Goals as goal

pub returns-in-64 : goal.returns-in-64
returns-in-64 c = first_is (λ bytes. Scans block_type bytes (Some (scanned.Minimal 1))) 64 c.args.bytes.now empty_scanned (omega arith) c.in-64.is

pub returns-in-124 : goal.returns-in-124
returns-in-124 c = first_is (λ bytes. Scans block_type bytes (Some (scanned.Minimal 1))) 124 c.args.bytes.now f64_scanned (omega arith) c.in-124.is

pub returns-in-125 : goal.returns-in-125
returns-in-125 c = first_is (λ bytes. Scans block_type bytes (Some (scanned.Minimal 1))) 125 c.args.bytes.now f32_scanned (omega arith) c.in-125.is

pub returns-in-126 : goal.returns-in-126
returns-in-126 c = first_is (λ bytes. Scans block_type bytes (Some (scanned.Minimal 1))) 126 c.args.bytes.now i64_scanned (omega arith) c.in-126.is

pub returns-in-127 : goal.returns-in-127
returns-in-127 c = first_is (λ bytes. Scans block_type bytes (Some (scanned.Minimal 1))) 127 c.args.bytes.now i32_scanned (omega arith) c.in-127.is

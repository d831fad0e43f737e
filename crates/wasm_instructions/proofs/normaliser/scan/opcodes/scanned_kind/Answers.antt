use Rattle.std.proofs.Common.{refl}
use Rattle.wasm_instructions.specs.declared.table.opcode.Kind.TheVariants as kinds
use Rattle.wasm_instructions.specs.declared.normaliser.scan.opcodes.ScannedKind.TheVariants as scanned
use Rattle.wasm_instructions.proofs.OpcodeLaws.{scanned_is}
use Rattle.wasm_instructions.proofs.normaliser.scan.opcodes.scanned_kind.Goals as goal

pub returns-in-Plain : goal.returns-in-Plain
returns-in-Plain c = scanned_is c.args.places.now c.args.byte kinds.None scanned.Plain c.requires c.ranges.byte.fits c.in-Plain.is refl

pub returns-in-Block : goal.returns-in-Block
returns-in-Block c = scanned_is c.args.places.now c.args.byte kinds.Block scanned.Block c.requires c.ranges.byte.fits c.in-Block.is refl

pub returns-in-Index : goal.returns-in-Index
returns-in-Index c = scanned_is c.args.places.now c.args.byte kinds.Index scanned.Index c.requires c.ranges.byte.fits c.in-Index.is refl

pub returns-in-Mem : goal.returns-in-Mem
returns-in-Mem c = scanned_is c.args.places.now c.args.byte kinds.Mem scanned.Mem c.requires c.ranges.byte.fits c.in-Mem.is refl

pub returns-in-I32 : goal.returns-in-I32
returns-in-I32 c = scanned_is c.args.places.now c.args.byte kinds.I32 scanned.I32 c.requires c.ranges.byte.fits c.in-I32.is refl

pub returns-in-I64 : goal.returns-in-I64
returns-in-I64 c = scanned_is c.args.places.now c.args.byte kinds.I64 scanned.I64 c.requires c.ranges.byte.fits c.in-I64.is refl

pub returns-in-F32 : goal.returns-in-F32
returns-in-F32 c = scanned_is c.args.places.now c.args.byte kinds.F32 scanned.F32 c.requires c.ranges.byte.fits c.in-F32.is refl

pub returns-in-F64 : goal.returns-in-F64
returns-in-F64 c = scanned_is c.args.places.now c.args.byte kinds.F64 scanned.F64 c.requires c.ranges.byte.fits c.in-F64.is refl

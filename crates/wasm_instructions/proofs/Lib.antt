pub mod DrainLaws
pub mod FormatLengths
mod HeldLists
mod PaddedLoads
mod CallLaws
pub mod InstructionLengths
pub mod CallRanges
pub mod OpcodeLaws
pub mod OperandFormatLaws
pub mod InstructionFormatLaws
pub mod CallRewriting
mod InstructionReading
pub mod OperandRewriting
pub mod ScannedCalls
mod LittleEndianHalves
pub mod NameLaws
pub mod ScannedPrefixed
pub mod ScannedParts

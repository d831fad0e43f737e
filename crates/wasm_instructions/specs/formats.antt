pub mod Opcodes
pub mod OpcodeNames
pub mod Operands
pub mod Instructions

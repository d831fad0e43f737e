pub mod Nesting
pub mod PartCombinators
pub mod Names
pub mod Externals
pub mod Expressions

pub mod Sink
pub mod ListCalls

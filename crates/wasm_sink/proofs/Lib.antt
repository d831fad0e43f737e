mod WrittenCalls
pub mod ChainLaws

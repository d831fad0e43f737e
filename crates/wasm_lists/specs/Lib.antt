pub mod Iterators
pub mod EncodedLists
pub mod Longer
pub mod ItemReading

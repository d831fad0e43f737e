pub mod Kept
pub mod Results

pub mod formats
pub mod Modules
pub mod CodeCounts
pub mod PrefixFree
pub mod Reasons
pub mod DecodedPrefixes
pub mod Longer

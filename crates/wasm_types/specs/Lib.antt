pub mod TypeParts
pub mod Types
pub mod formats
pub mod TypeCounts
pub mod TypeRanges
pub mod PrefixFree

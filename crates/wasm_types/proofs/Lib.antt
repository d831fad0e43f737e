pub mod TypeFormatLaws
pub mod WrittenTypes
pub mod FinalTypes
pub mod ScannedTypes
pub mod ScannedValTypes
pub mod ShortTypes
pub mod ScannedFields

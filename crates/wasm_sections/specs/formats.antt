pub mod EntryParts
pub mod ModuleSectionParts
pub mod Entries
pub mod Segments
pub mod Elements
pub mod Sections
pub mod ModuleSections

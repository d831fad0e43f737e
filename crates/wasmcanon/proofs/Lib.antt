pub mod SectionSearches
pub mod ResultLaws
pub mod StaleLaws
pub mod FormLaws

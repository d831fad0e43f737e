pub mod Objects
pub mod Run
pub mod StaleSections

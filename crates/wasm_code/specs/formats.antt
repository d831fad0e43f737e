pub mod Sections
pub mod CodeBodies
pub mod Modules

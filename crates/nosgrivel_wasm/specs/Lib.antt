pub mod Canonicalising

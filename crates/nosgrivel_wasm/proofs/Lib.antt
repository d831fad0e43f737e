pub mod CanonicalLaws

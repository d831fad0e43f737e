pub mod PartCombinatorLaws
pub mod NameLaws
pub mod ExternalLaws
pub mod ExpressionLaws
pub mod ScannedEntities

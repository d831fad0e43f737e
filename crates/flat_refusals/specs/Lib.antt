pub mod FlatRefusals
pub mod Messages

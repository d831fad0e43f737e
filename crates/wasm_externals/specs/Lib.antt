pub mod Making
pub mod ClosedExpressions
pub mod HeldCalls
pub mod formats

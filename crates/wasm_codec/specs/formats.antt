pub mod Grammar
pub mod Numbers
pub mod Combinators
pub mod Bodies

pub mod asked
pub mod ends
pub mod promises

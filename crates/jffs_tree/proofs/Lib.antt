pub mod states
pub mod trees
pub mod decisions
pub mod versions
pub mod listing

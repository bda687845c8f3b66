pub mod Adding
pub mod Blocks
pub mod Entered
pub mod Fronts
pub mod Kept
pub mod Seen

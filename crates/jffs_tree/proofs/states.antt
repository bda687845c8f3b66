-- What nodes make of a state, and the rules that it keeps.
pub mod Entries
pub mod Erasing
pub mod Kept
pub mod Live
pub mod Offsets
pub mod Pointwise
pub mod Ruled
pub mod Rules
pub mod Sources
pub mod States
pub mod Steps
pub mod TrueCopy

-- What a run promises, and what runs do that follow one another.
pub mod Done
pub mod Headlines
pub mod Heavy
pub mod Sessions
pub mod Turns
pub mod Wear
pub mod Work

-- What is decided on a request, and what its answer tells.
pub mod Asked
pub mod Contents
pub mod Deciding
pub mod Done
pub mod Full
pub mod Lawful
pub mod Refusing
pub mod Stepping
pub mod Told
pub mod Unchanged
pub mod Working

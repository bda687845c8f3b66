pub mod Session
pub mod Cleaned
pub mod Looks
pub mod Told
pub mod Put
pub mod PutEnds

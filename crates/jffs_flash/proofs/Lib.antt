pub mod Bits
pub mod Dooms
pub mod Halves
pub mod Replaced

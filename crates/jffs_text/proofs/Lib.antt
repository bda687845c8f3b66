pub mod Adding
mod InOrder
pub mod Told
mod Hex

pub mod Flying
pub mod Held
pub mod Kept
pub mod Lost
pub mod Order
pub mod Stored

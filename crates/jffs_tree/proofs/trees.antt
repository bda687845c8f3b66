-- A tree as the maps hold it, and what one more node makes of it.
pub mod Applied
pub mod Grown
pub mod InOrder
pub mod Looked
pub mod Tested
pub mod Written

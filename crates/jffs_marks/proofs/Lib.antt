pub mod Order
pub mod Maps
pub mod Marking
pub mod Places
pub mod Searched
pub mod Halving
pub mod Walks
pub mod Totals

pub mod Put
pub mod InOrder
pub mod Marked
pub mod files

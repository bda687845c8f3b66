pub mod Requests
pub mod InOrder
pub mod Line
pub mod Rings
pub mod Shared
pub mod Numbered
pub mod Settling

pub mod Device
pub mod Dooming
pub mod Fuse
pub mod Image
pub mod Limited
pub mod ReadsLeft
pub mod Sizes
pub mod Wear

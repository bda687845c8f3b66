-- What an append does to the image, the index and the log.
pub mod Append
pub mod Appended
pub mod Fits
pub mod Gate
pub mod Open
pub mod Puts
pub mod Putting

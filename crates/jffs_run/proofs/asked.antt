-- What was asked of the lines, and in which order.
pub mod Asked
pub mod Numbers
pub mod Slots
pub mod Unmounting

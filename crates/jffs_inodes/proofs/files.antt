-- The bytes of a file, and the fragments that hold them.
pub mod Appending
pub mod Comparing
pub mod Counted
pub mod FileWritten
pub mod FirstWritten
pub mod Fragments
pub mod InodeWritten
pub mod Overwriting
pub mod Reading
pub mod Replacing
pub mod Reversed
pub mod SameCells
pub mod Splitting
pub mod Taking

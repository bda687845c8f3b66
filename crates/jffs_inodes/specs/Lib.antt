pub mod Held
pub mod Inodes
pub mod Marked
pub mod Fragments
pub mod Shown

pub mod Spelling
pub mod Wishes
pub mod Causes
pub mod Dump
pub mod Added
pub mod Scripts

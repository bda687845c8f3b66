pub mod Handles
pub mod Asking
pub mod Places

pub mod Emptying
pub mod Lists
pub mod Making
pub mod RingMaking
pub mod Ringing
pub mod Settling
pub mod Steps
pub mod Numbering

pub mod Rules
pub mod Refusals
pub mod Texts
pub mod Telling
pub mod Faults
pub mod Reading

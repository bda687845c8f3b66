-- What a decision gives, and where its paths lead.
pub mod Changing
pub mod Copies
pub mod Decided
pub mod Done
pub mod Putting
pub mod Resolving
pub mod There
pub mod Wishes

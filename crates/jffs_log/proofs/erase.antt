-- The oldest sector, how it is erased, and how the sectors wear.
pub mod Erased
pub mod ErasedIndex
pub mod OldestAsked
pub mod OldestDead
pub mod OldestRefs
pub mod Wear
pub mod WearOverSessions

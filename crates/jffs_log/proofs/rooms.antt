-- Weight, room, and what cleaning makes of both.
pub mod Bound
pub mod Cleanings
pub mod Copied
pub mod HistoryWeight
pub mod Loop
pub mod Rooms
pub mod Turn
pub mod Weighed
pub mod Weight
pub mod Work
pub mod WorkOfTurns

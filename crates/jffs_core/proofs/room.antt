-- How room is made: copies, cleaned sectors, erased ones.
pub mod Called
pub mod Copying
pub mod Erasing
pub mod RoomMade
pub mod Sweeping
pub mod Turning

pub mod answers
pub mod room
pub mod puts
pub mod scans

pub mod Counting
pub mod Flights
pub mod Losing
pub mod Ordering
pub mod Written

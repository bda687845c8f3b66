-- How threads and runs end.
pub mod Crews
pub mod Faults
pub mod Runs
pub mod Scanning
pub mod Seeing
pub mod Unstarted

-- An erase that had begun: what healing finds, and what it keeps.
pub mod Found
pub mod Asked
pub mod Doomed
pub mod Emptied
pub mod Healed
pub mod Sector

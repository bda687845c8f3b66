pub mod Name
pub mod Record
pub mod Reading
pub mod Header
pub mod Path
pub mod Laws
pub mod Rows

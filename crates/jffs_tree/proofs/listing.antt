-- The index of children, and what is listed of a directory.
pub mod After
pub mod Apart
pub mod Directories
pub mod Following
pub mod Indexed
pub mod KeyOrder
pub mod Listed
pub mod Members
pub mod Near
pub mod Reindexed
pub mod Standing

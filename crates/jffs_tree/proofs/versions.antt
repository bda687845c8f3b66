-- What the marks tell of the versions in a tree.
pub mod Finding
pub mod Ranged
pub mod Totals
pub mod WholeTree

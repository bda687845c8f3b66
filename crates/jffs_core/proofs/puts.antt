-- What the core knows after one node more.
pub mod Handed
pub mod Putting
pub mod Trees

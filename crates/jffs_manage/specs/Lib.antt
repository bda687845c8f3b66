pub mod Weights
pub mod Looks
pub mod Answers
pub mod Wanting
pub mod Manner
pub mod Left

pub mod Tree
pub mod Turns
pub mod Ways
pub mod Whole

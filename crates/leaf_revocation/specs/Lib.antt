pub mod Leaf
pub mod Flags

-- The structured tables that the code works on, and the states of the model that they stand for.
pub mod Rows
pub mod Shape
pub mod Tables
pub mod Sizes
pub mod Words
pub mod Links
pub mod Free
pub mod Tracker
pub mod Slots
pub mod Tree
pub mod Queue
pub mod Decode
pub mod Canonical

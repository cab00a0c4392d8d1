pub mod Pools
pub mod Rows
pub mod Sections
pub mod Slots

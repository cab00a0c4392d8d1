pub mod Finish
pub mod Law
pub mod Unique

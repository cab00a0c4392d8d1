pub mod Law
pub mod Steps
pub mod Unkept

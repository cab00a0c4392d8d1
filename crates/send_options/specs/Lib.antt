pub mod Joining
pub mod Options

pub mod Closes
pub mod Steps

pub mod Reading
pub mod Runs
pub mod Flags

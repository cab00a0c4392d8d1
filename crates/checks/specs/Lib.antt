pub mod Checks
pub mod Reads

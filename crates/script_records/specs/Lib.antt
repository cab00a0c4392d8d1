pub mod Script
pub mod Parsed

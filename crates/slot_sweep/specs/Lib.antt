pub mod Sweep
pub mod Steps

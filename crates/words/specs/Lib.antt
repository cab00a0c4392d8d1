pub mod Copies
pub mod Cuts
pub mod Rows
pub mod Runs
pub mod Stores
pub mod Zeros

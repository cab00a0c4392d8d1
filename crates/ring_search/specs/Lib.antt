pub mod Queueing
pub mod Search
pub mod Sizes

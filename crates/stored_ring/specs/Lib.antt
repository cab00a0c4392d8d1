pub mod Fitted
pub mod Stored

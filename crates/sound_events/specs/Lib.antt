pub mod Events
pub mod Words
pub mod Passes

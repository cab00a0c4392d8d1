pub mod Arena
pub mod Words

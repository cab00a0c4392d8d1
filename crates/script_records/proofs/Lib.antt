pub mod Numbered
pub mod Parses
pub mod Fronts
pub mod Scripts
pub mod Streams
pub mod Words
pub mod Examples

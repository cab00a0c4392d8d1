-- The promise comes first (`Converts`).
pub mod Converts
pub mod Exact

pub mod Built
pub mod Fits

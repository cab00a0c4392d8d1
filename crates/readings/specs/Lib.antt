pub mod Readings
pub mod Listing

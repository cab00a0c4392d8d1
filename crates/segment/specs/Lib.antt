pub mod Regions
pub mod Walks

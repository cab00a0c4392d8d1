-- The region tree in the tables.
pub mod Regions
pub mod Children

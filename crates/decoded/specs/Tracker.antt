-- The trackers in the tables.
pub mod Trackers

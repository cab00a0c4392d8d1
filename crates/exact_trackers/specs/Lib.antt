-- That the test of the trackers is exact.
pub mod Regions
pub mod Slots
pub mod Law

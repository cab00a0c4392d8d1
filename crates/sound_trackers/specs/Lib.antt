pub mod Area
pub mod Swept
pub mod Trackers
pub mod Turns

pub mod Hold
pub mod Trackers
pub mod Answers

pub mod Hold
pub mod Rows
pub mod Passed
pub mod Answers

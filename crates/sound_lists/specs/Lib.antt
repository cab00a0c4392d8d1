pub mod Counting
pub mod Marks
pub mod Loops
pub mod Answers

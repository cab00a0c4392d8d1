pub mod Answers
pub mod Then

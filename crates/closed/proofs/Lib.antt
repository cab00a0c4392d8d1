pub mod Found
pub mod Left
pub mod Returns
pub mod After
pub mod Theorem
pub mod Example

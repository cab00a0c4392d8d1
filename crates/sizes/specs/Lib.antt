pub mod Sizes
pub mod Limits
pub mod Tests

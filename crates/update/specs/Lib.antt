pub mod Changes
pub mod Laid

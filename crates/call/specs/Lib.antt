pub mod Arguments
pub mod Steps

pub mod Children
pub mod Walks

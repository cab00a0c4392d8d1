pub mod Close
pub mod Walks

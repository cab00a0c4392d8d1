pub mod Brings
pub mod Buffered

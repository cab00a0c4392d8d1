pub mod Lookup
pub mod Readings
pub mod Permissions

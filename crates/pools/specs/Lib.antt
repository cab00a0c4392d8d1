pub mod Pools
pub mod Wiping

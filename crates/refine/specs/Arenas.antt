-- Pools in the tables.
pub mod Pools
pub mod PoolSlots

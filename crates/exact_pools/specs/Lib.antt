pub mod Clauses
pub mod Walks
pub mod Stacks
pub mod Pools
pub mod Rows
pub mod Trackers
pub mod Domains
pub mod Law

pub mod Rights
pub mod Counters
pub mod Bits
pub mod Laws
pub mod Joined

pub mod Gens
pub mod Law

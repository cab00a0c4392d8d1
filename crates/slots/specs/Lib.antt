pub mod Capas
pub mod Steps

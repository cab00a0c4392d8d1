pub mod Capas
pub mod Rows
pub mod Steps

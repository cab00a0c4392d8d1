pub mod Unkept

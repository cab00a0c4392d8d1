pub mod Activate

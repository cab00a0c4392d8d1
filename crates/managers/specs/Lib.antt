pub mod Managers

pub mod Arrays
pub mod Lists
pub mod Steps

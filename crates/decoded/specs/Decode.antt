-- Structured tables read back as a state of the model; what is read from the tables of a sound state is that state.
pub mod Read
pub mod Walks
pub mod Pools
pub mod Lists
pub mod Trackers
pub mod Regions
pub mod Places
pub mod Queue
pub mod Law

-- The region tree in the tables.
pub mod Search
pub mod ChildLists
pub mod NewChild
pub mod ChildChecks
pub mod RegionSteps

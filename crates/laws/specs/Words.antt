-- The words of the tables tell the state: their number, and that two sound states with the same words are the same.
pub mod Length
pub mod SameTables
pub mod SameRegions
pub mod SameTrackers
pub mod SameDomains
pub mod SameQueue
pub mod Unique

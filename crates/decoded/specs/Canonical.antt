-- Tables whose words are those of the state that is read from them: conditions row by row, and the law that tables are those of a sound state exactly
-- where the conditions hold and the state that is read is sound.
pub mod Ends
pub mod WellFormed
pub mod Pools
pub mod Domains
pub mod Regions
pub mod Records
pub mod Ring
pub mod Law
pub mod Sound
pub mod Tables
pub mod Exact
pub mod Words

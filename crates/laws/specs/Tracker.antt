-- Laws of the tracker: what a gain and a loss of a range leave, at each address, in the records and in the record pool.
pub mod Look
pub mod Span
pub mod Cut
pub mod Marks
pub mod One
pub mod Flag
pub mod Walked
pub mod Merge
pub mod Laws
pub mod Fields
pub mod Form
pub mod Change
pub mod Pools
pub mod Slots
pub mod Unique
pub mod Stored

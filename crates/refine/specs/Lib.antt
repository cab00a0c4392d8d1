-- Each step and call on structured tables is the model's on the state that they stand for.
pub mod Making
pub mod Changes
pub mod Agrees
pub mod Arenas
pub mod Tracker
pub mod Slots
pub mod Tree
pub mod Queue
pub mod Calls

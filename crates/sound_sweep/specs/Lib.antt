-- The code of the sweep is the sweep on lists.
pub mod Records
pub mod Cursors
pub mod Steps
pub mod Rounds
pub mod Whole

-- The sums and cursors of the code are those of the sweep on lists.
pub mod Sums
pub mod Tests
pub mod Cursors
pub mod Moves

-- Free stacks and trackers of the tables, walks along them on lists, and what the code reads of a slot.
pub mod Walk
pub mod Checked
pub mod Stacks
pub mod Reads

-- The book of demand 3 and what is claimed of it come first. Then the relation that the calls keep, and each call by its name.
pub mod Book
pub mod Demand3
pub mod Tests
pub mod Matches
-- from the relation to the claims
pub mod Lent
pub mod ShutOut

-- Plain mathematics that several crates use: branches and cases, tests, lists, options, places of a ring.
pub mod Cases
pub mod Tests
pub mod Ranges
pub mod Lists
pub mod Options
pub mod Rounds
pub mod Clauses

-- What tests of soundness lean on: a test of all members of a list, and paths up a tree.
pub mod Lists
pub mod Paths

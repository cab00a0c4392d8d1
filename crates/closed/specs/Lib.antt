-- What a close takes, and the statement, come first (`Ends`); the rest is the proof and an example.
pub mod Ends

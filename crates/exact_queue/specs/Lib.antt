pub mod Clauses
pub mod Words
pub mod Updates
pub mod Fits
pub mod Queue

-- Theorems about the definitions, found by computing: no part of what a reader must believe.
pub mod Compute
pub mod Script
pub mod Edges
pub mod OurCases
pub mod SendFlags
pub mod SendHash
pub mod HashAlone
pub mod Interface
pub mod Marks
pub mod Closing
pub mod Holders
pub mod Example

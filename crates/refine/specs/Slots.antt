-- Domains and their slot lists in the tables.
pub mod Locals
pub mod ListSteps
pub mod Sweep
pub mod Opening
pub mod Freeing

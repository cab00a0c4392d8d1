-- Domains and their slot lists in the tables.
pub mod Domains

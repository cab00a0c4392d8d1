-- The update ring in the tables.
pub mod Ring

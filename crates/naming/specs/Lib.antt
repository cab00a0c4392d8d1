pub mod Given
pub mod Named

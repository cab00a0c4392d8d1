pub mod Lines
pub mod Rising
pub mod Examples
pub mod Listed
pub mod Room

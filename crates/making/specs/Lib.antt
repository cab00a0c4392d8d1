pub mod Empty
pub mod Made

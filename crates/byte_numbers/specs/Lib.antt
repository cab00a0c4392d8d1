pub mod Numbers
pub mod BytesOf

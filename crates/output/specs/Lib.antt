pub mod Bounds
pub mod Examples
pub mod Lines
pub mod Printed
pub mod Printing
pub mod Puts
pub mod Sent
pub mod Text

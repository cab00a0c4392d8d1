pub mod Test
pub mod Rules

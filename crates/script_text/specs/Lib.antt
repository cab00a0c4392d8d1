pub mod Domains
pub mod Records
pub mod ScriptText
pub mod Turns

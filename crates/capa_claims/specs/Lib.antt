pub mod CapaClaims
pub mod Lent

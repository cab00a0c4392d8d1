-- **Revoke**: what it leaves of the book and of the regions, and that it keeps book and tables matched; a close likewise.
pub mod Dying
pub mod Regions
pub mod Dead
pub mod Close
pub mod Match

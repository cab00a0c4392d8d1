pub mod Revoke

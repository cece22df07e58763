pub mod Rows
pub mod Exposed
pub mod Places

pub mod Reads
pub mod Steps
pub mod Reader

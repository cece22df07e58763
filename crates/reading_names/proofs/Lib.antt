pub mod Search
pub mod Spelling
pub mod Tables

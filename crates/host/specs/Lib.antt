pub mod LentWords
pub mod Numbered
pub mod LentStore

pub mod Kinds
pub mod Words
pub mod Blocks
pub mod Events
pub mod Built
pub mod Decoded
pub mod Answers

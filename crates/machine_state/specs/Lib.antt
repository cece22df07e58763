pub mod Machine
pub mod Flagged
pub mod Operating
pub mod Address
pub mod Answers
pub mod Memory
pub mod Private

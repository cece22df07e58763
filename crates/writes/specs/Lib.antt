pub mod Writes
pub mod Private
pub mod Slots

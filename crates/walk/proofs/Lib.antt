pub mod Turns
pub mod Walked

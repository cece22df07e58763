pub mod Displacement
pub mod Longest

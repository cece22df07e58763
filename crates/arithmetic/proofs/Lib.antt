pub mod Widths
pub mod Integers
pub mod Adding
pub mod Taking
pub mod Left

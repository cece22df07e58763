pub mod Ascii
pub mod Hex
pub mod Put

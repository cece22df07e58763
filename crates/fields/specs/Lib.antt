pub mod Parts
pub mod FlagBits

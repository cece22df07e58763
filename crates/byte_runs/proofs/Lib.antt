pub mod Filled
pub mod Puts

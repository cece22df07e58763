pub mod Walk
pub mod Private

pub mod Arms
pub mod Bounds
pub mod Outcomes
pub mod Numbered

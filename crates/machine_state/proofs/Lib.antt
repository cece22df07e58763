pub mod Controls
pub mod Lanes
pub mod Outcomes
pub mod Steps

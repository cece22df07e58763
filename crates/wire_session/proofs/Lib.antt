pub mod Replying
pub mod Showing
pub mod Reporting
pub mod Fixed

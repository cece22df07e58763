pub mod Marking
pub mod Exact

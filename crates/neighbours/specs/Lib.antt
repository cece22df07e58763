pub mod Dependent
pub mod Swapped

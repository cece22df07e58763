pub mod OneName
pub mod Longest

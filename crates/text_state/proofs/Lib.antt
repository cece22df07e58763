pub mod StateLines
pub mod Longest
pub mod StateExamples

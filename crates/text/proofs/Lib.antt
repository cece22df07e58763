pub mod Answering
pub mod Outcomes
pub mod Longest
pub mod TextExamples

pub mod Writing
pub mod HexLaws
pub mod DecimalLaws
pub mod Longest

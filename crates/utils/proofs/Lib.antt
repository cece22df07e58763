pub mod TwosComplement
pub mod Powers
pub mod Field
pub mod Extend
pub mod Bytes
pub mod Outcomes
pub mod RoundTrip

pub mod Growth
pub mod Signs
pub mod Digits
pub mod Texts

pub mod Forgotten
pub mod Within
pub mod Places
pub mod Shapes
pub mod Owed
pub mod Inside
pub mod Theorem
pub mod Whole

pub mod Common
pub mod Test
pub mod Parted
pub mod Neighbours
pub mod Tabled
pub mod Remembering

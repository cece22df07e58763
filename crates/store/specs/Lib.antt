pub mod Store
pub mod View
pub mod Facts

pub mod Registers
pub mod Sizes
pub mod Flags
pub mod Operands
pub mod Arguments
pub mod Builder

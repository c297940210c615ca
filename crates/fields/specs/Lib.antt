pub mod Packing
pub mod Blocks
pub mod Field
pub mod Inner

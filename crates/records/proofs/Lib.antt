pub mod Functions
pub mod Good

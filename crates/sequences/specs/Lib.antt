pub mod Line
pub mod Writing
pub mod Inner

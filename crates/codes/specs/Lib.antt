pub mod Writing
pub mod Hearing
pub mod Reading
pub mod Choosing
pub mod Steps
pub mod Inner

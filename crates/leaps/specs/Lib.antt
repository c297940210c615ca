pub mod Leaps
pub mod Inner

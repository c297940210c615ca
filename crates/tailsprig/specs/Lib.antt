pub mod Exports
pub mod Inner

pub mod Text
pub mod Reading
pub mod Plain
pub mod Good
pub mod Inner

pub mod Lowest
pub mod Reading

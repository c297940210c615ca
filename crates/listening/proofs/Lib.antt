pub mod Ranges
pub mod Acts
pub mod Many
pub mod Unique

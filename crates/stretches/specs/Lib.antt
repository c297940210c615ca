pub mod Stretch
pub mod Hearing
pub mod Heard

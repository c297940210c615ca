pub mod Framing
pub mod Ranges

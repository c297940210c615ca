pub mod Ranges
pub mod Words
pub mod Places
pub mod Refused

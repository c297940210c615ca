pub mod Places
pub mod Bits
pub mod Sets

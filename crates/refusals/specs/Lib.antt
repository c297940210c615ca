pub mod Refusals
pub mod Lent

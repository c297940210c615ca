pub mod Cadence
pub mod Giving
pub mod Inner

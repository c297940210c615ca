pub mod Offering
pub mod Making
pub mod Inner

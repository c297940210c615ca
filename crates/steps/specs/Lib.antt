pub mod Table
pub mod Session
pub mod Stepping
pub mod Drawing
pub mod Runs
pub mod Inner

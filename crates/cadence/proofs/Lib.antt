pub mod Ranges
pub mod Bits
pub mod Outcomes
pub mod Moves
pub mod Left
pub mod Placed
pub mod Unique

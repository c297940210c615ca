pub mod Logic
pub mod Front
pub mod Joined
pub mod Tests

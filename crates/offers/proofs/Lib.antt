pub mod Making
pub mod Groups
pub mod Meaning
pub mod Answering
pub mod Saying
pub mod Fields
pub mod Writing

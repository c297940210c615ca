pub mod Record
pub mod Hearing
pub mod Spans

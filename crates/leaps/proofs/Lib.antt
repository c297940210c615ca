pub mod Steps
pub mod Ranges
pub mod Spans
pub mod Tens

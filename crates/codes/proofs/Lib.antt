pub mod Codes
pub mod Steps
pub mod Apart
pub mod ApartReports

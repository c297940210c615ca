pub mod Letters
pub mod Each

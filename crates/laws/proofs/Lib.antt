pub mod Cases
pub mod Logic
pub mod Computed
pub mod Joined
pub mod Rest
pub mod Pasted
pub mod Same

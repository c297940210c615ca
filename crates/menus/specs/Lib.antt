pub mod Groups
pub mod Offer
pub mod Asking
pub mod Pcm
pub mod Inner

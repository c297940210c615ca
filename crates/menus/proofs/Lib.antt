pub mod Looking
pub mod Reading
pub mod Joined
pub mod Asking
pub mod Pcm

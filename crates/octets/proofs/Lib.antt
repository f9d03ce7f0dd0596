pub mod Halves
pub mod Xor
pub mod Joined
pub mod Typed

pub mod Allowed
pub mod Sending
pub mod Running

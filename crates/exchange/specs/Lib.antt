pub mod Sending
pub mod Running

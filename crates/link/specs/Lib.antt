pub mod Driving
pub mod Answering
pub mod Linked

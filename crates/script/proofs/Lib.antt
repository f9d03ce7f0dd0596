pub mod Ends
pub mod Readings
pub mod Examples

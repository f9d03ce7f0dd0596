pub mod Runs
pub mod Watch

pub mod Stuffing
pub mod Writing
pub mod Outcomes

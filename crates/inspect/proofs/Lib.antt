pub mod Lengths
pub mod Asked

pub mod Pairs
pub mod Figures
pub mod Stripped

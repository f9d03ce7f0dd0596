pub mod Law
pub mod Sum
pub mod Tiles

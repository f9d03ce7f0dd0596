pub mod Driven
pub mod Linking

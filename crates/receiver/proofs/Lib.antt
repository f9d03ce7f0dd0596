pub mod Ears
mod Feeding

mod Stepping
mod Started

pub mod Fcs
pub mod Law
pub mod Published
pub mod Written
pub mod Sound
pub mod Shifts

pub mod Lines
pub mod Late

pub mod Sum
pub mod Views

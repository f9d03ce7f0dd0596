pub mod Script
pub mod Requests
pub mod Rows

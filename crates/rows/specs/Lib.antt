pub mod Rows
pub mod Codes

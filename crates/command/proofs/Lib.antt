pub mod Walk
pub mod Rows
pub mod Said
pub mod Formats

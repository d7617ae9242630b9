pub mod Commands
pub mod Copies

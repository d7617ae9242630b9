pub mod Loads
pub mod Refits

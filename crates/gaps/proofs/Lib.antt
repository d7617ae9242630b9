pub mod Smallest
pub mod Rule

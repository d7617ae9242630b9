pub mod Tidy
pub mod Claims

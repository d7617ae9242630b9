pub mod Noises
pub mod Claims

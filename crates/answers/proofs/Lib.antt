pub mod Stored
pub mod Hosted

pub mod First
pub mod Joined

pub mod First
pub mod Beside
pub mod Copied

pub mod Tones
pub mod Runs
pub mod Claims
pub mod Passes

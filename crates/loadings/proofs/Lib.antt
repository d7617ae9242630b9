pub mod Runs
pub mod Starting
pub mod UpTo
pub mod Outcomes

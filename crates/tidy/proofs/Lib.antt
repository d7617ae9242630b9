pub mod Maps
pub mod Writes
pub mod Index
pub mod Outcomes

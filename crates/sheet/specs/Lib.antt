pub mod Reading
pub mod Index
pub mod Check
pub mod Writes

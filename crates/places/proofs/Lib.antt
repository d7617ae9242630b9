pub mod Entries
pub mod Rests

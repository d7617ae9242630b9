pub mod High
pub mod Raising
pub mod Lines

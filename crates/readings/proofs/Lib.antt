pub mod Signs
pub mod Patterns
pub mod Ratio
pub mod Shifts
pub mod Readings
pub mod Cost

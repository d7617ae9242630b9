pub mod Outcomes
pub mod Promises
pub mod Totals
pub mod Written
